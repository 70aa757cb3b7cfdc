-- The row of an old node made new, by the words that its circuit shows. Assumes nothing.
use Rattle.std.specs.Prelude.{◌≡◌, refl, Bool, cond, List, ℕ, ◌+◌, ◌<◌, eqb}
use Rattle.std.proofs.Common.{ap, ◌∙◌}
use Rattle.lists.specs.Lists.{one}
use Rattle.lists.proofs.BelowLaws.{one_eqb}
use Rattle.netlist.specs.declared.Element.{Element}
use Rattle.netlist.specs.Net.{Net, size, element_at, width_at, operands, is_async, is_clocked, is_memory}
use Rattle.netlist.proofs.Memories.{memory_kinds}
use Rattle.circuit.specs.Code.{code_of, number_or, table_or}
use Rattle.circuit.specs.Circuit.{net_of, Circuit}
use Rattle.layout.specs.NewRow.{entry_node, RowOf, part_byte, entry_row}

memory_one : (e : Element) → eqb (one (is_async e) + one (is_clocked e)) 1 ≡ is_memory e
memory_one e = ap (λ (n : ℕ). eqb n 1) (memory_kinds e) ∙ one_eqb (is_memory e)

module _ (s l : List ℕ) (o : Circuit s l) (u : ℕ) (h : u < size (net_of s l)) (word : ℕ) (xs : List ℕ) where
  abbrev N : Net
  N = net_of s l

  pub entry_row_by_words : {c rom clocked k k' n t w : ℕ} → c ≡ code_of (element_at N u) → rom ≡ one (is_async (element_at N u)) → clocked ≡ one (is_clocked (element_at N u)) → n ≡ operands (element_at N u)
      → k ≡ number_or k (element_at N u) → k' ≡ cond (eqb (rom + clocked) 1) word k → (t ≡ table_or t (element_at N u)) × (t < 256) → (w ≡ width_at N u) × (w < 256)
      → RowOf (record { code = c + rom; width = w; count = n; sources = xs; number = k'; table = t }) (entry_node N u word xs)
  entry_row_by_words {k = k} {k'} code r q count number held table width =
      entry_row N u word xs code r count number (part_byte s l o refl u h number) k_is table.0 table.1 width.0 width.1
    where
      k_is : k' ≡ cond (is_memory (element_at N u)) word k
      k_is = held ∙ (λ i. cond (eqb (r i + q i) 1) word k) ∙ ap (λ (b : Bool). cond b word k) (memory_one (element_at N u))
