-- Every node of the rewritten netlist stands at the number of its place: places and numbers are one to one. Assumes nothing.
use Rattle.std.specs.Prelude.{◌≡◌, refl, List}
use Rattle.std.proofs.Math.Path.{sym, ap, subst}
use Rattle.std.proofs.Common.{◌∙◌, arith}
use Rattle.std.proofs.Math.Logic.{⊎_elim}
use Prim.Native.Nat.{ℕ, suc, ◌+◌, ◌-◌, ◌<◌}
use Rattle.std.proofs.Math.ListN.{length, get_or}
use Rattle.lists.specs.Lists.{below, concat_map, offset, find}
use Rattle.lists.proofs.BelowLaws.{true_or_false, length_listed, get_or_listed}
use Rattle.lists.proofs.ListsLaws.{in_part, in_part-below, get_or_concat_map, get_or_concat_below}
use Rattle.lists.specs.DistinctLaws.{Once}
use Rattle.lists.proofs.DistinctLaws.{once_distinct, find_get_or}
use Rattle.netlist.specs.Net.{Net, size, element_at, operands}
use Rattle.retiming.specs.Rewrite.{Timing, Place, Reg, memory_at, stays, count_on, copies_of, copies, entries_of, wires_of, wires_all, wire_places, wire_number, regs_on, entry_places, reg_places, places, number_of}
use Rattle.retiming.specs.Layout.{no_place}
use Rattle.retiming.proofs.LayoutLaws.{either}
use Rattle.retiming.proofs.Ports.{Decoded, decode}

module _ (N : Net) (f : Timing) (Z : ℕ → ℕ → ℕ) where
  pub copies_once : (u : ℕ) → Once (copies N f Z u)
  unfolding copies
  copies_once u =
      ⊎_elim (λ t. rw t (⊎_elim (λ r. rw r (once_distinct (concat_map (copies_of N f Z u) (below (size N))))) (λ r. rw r (refl, tt)) (true_or_false (memory_at N u)))) (λ t. rw t tt)
      (true_or_false (stays N f Z u))

  entry-again : (i : ℕ) → Decoded N f Z i → number_of N f Z (get_or (entry_places N f Z) i no_place) ≡ i
  unfolding number_of
  entry-again i d =
      ap (number_of N f Z) d.at
      ∙ ap (λ (k : ℕ). offset (entries_of N f Z) (below (size N)) d.node + k) (find_get_or (copies N f Z d.node) d.copy 0 (copies_once d.node) d.among)
      ∙ sym d.number

  -- the number of a place on a wire, taken apart
  pub record OnWire {A : Type 0} (d : A) (g : ℕ → ℕ → ℕ → List A) (m : ℕ) : Type 0 where
    pub reader : ℕ
    pub word : ℕ
    pub operand : ℕ
    pub place : ℕ
    pub within : place < length (g reader word operand)
    pub number : m ≡ wire_number N f Z g reader word operand + place
    pub at : get_or (wire_places N f Z g) m d ≡ get_or (g reader word operand) place d

  pub on_wire : {A : Type 0} (d : A) (g : ℕ → ℕ → ℕ → List A) (m : ℕ) → m < length (wire_places N f Z g) → OnWire d g m
  unfolding wire_places wires_all wires_of wire_number
  on_wire d g m h = by_reader_lem (in_part-below (wires_all N f Z g) (size N) m h)
    where
      by_operand : (x k₂ k₁ ci : ℕ) → x < size N → k₂ < length (wires_all N f Z g x) → ci < length (copies N f Z x) → k₁ < length (wires_of N f Z g x (get_or (copies N f Z x) ci 0))
          → m ≡ offset (wires_all N f Z g) (below (size N)) x + k₂ → k₂ ≡ offset (wires_of N f Z g x) (copies N f Z x) ci + k₁
          → (p : ℕ) × (k₀ : ℕ) × (p < operands (element_at N x)) × (k₀ < length (g x (get_or (copies N f Z x) ci 0) p))
          × (k₁ ≡ offset (g x (get_or (copies N f Z x) ci 0)) (below (operands (element_at N x))) p + k₀) → OnWire d g m
      by_operand x k₂ k₁ ci hx h₂ hc h₁ e₃ e₂ (p, k₀, hp, h₀, e₁) =
          let c : ℕ = get_or (copies N f Z x) ci 0 in
          let again : find c (copies N f Z x) ≡ ci = find_get_or (copies N f Z x) ci 0 (copies_once x) hc in
          record {
            reader = x;
            word = c;
            operand = p;
            place = k₀;
            within = h₀;
            number = rw again (omega arith);
            at =
                ap (λ (k : ℕ). get_or (wire_places N f Z g) k d) e₃
                ∙ get_or_concat_below (wires_all N f Z g) (size N) x k₂ hx h₂ d
                ∙ ap (λ (k : ℕ). get_or (wires_all N f Z g x) k d) e₂
                ∙ get_or_concat_map (wires_of N f Z g x) (copies N f Z x) ci k₁ 0 d hc h₁
                ∙ ap (λ (k : ℕ). get_or (wires_of N f Z g x c) k d) e₁
                ∙ get_or_concat_below (g x c) (operands (element_at N x)) p k₀ hp h₀ d;
          }

      by_copy : (x k₂ : ℕ) → x < size N → k₂ < length (wires_all N f Z g x) → m ≡ offset (wires_all N f Z g) (below (size N)) x + k₂
          → (ci : ℕ) × (k₁ : ℕ) × (ci < length (copies N f Z x)) × (k₁ < length (wires_of N f Z g x (get_or (copies N f Z x) ci 0))) × (k₂ ≡ offset (wires_of N f Z g x) (copies N f Z x) ci + k₁) → OnWire d g m
      by_copy x k₂ hx h₂ e₃ (ci, k₁, hc, h₁, e₂) =
          by_operand x k₂ k₁ ci hx h₂ hc h₁ e₃ e₂ (in_part-below (g x (get_or (copies N f Z x) ci 0)) (operands (element_at N x)) k₁ h₁)

      by_reader_lem : (x : ℕ) × (k₂ : ℕ) × (x < size N) × (k₂ < length (wires_all N f Z g x)) × (m ≡ offset (wires_all N f Z g) (below (size N)) x + k₂) → OnWire d g m
      by_reader_lem (x, k₂, hx, h₂, e₃) = by_copy x k₂ hx h₂ e₃ (in_part (wires_of N f Z g x) (copies N f Z x) k₂ 0 h₂)

  reg_again : (m : ℕ) → m < length (reg_places N f Z) → number_of N f Z (get_or (reg_places N f Z) m no_place) ≡ length (entry_places N f Z) + m
  unfolding number_of reg_places regs_on
  reg_again m h = go (on_wire no_place (regs_on N f Z) m h)
    where
      go : OnWire no_place (regs_on N f Z) m → number_of N f Z (get_or (reg_places N f Z) m no_place) ≡ length (entry_places N f Z) + m
      go d =
          let n : ℕ = count_on N f Z d.reader d.operand in
          let place : ℕ → Place = λ i. Reg d.reader d.word d.operand (n - suc i) in
          let l : d.place < n = subst (λ (k : ℕ). d.place < k) (length_listed place n) d.within in
          ap (number_of N f Z) (d.at ∙ get_or_listed place n d.place no_place l) ∙ omega (arith, d.number)

  pub number_of_place : (i : ℕ) → i < length (places N f Z) → number_of N f Z (get_or (places N f Z) i no_place) ≡ i
  unfolding places
  number_of_place i h =
      ⊎_elim (λ (l, e). ap (number_of N f Z) e ∙ entry-again i (decode N f Z i l))
      (λ (m, k, l, e). ap (number_of N f Z) e ∙ reg_again m l ∙ sym k)
      (either no_place (entry_places N f Z) (reg_places N f Z) i h)
