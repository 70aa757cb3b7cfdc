-- A file can hold the rewritten netlist: each of its nodes is a record of the format, source numbers of two bytes, table numbers of one. Assumes nothing.
use Rattle.std.proofs.Math.Path.{◌≡◌, refl}
use Rattle.std.proofs.Common.{sym, subst, arith, lit<, le-ltb}
use Rattle.std.proofs.Math.Logic.{⊎_elim}
use Rattle.std.specs.Prelude.{List, [], ◌∷◌, length, get_or}
use Prim.Native.Nat.{ℕ, zero, suc, ◌≤◌, ◌<◌}
use Rattle.words.specs.declared.Op.TheVariants.{Part}
use Rattle.netlist.specs.declared.Element.{Element}
use Rattle.netlist.specs.declared.Element.TheVariants.{Input, Output, Register, Async, Clocked, Gate}
use Rattle.netlist.specs.declared.Node.{Node}
use Rattle.lists.proofs.BelowLaws.{lt_or_le}
use Rattle.netlist.specs.Net.{Table, Net, size, node_at, element_at, source, operands, table_of, Sourced}
use Rattle.netlist.specs.Checks.{HasTable, WellFormed}
use Rattle.netlist.specs.Trim.{over_table, renumbered, trimmed}
use Rattle.netlist.proofs.Trimmed.{inside_trimmed, node_trimmed}
use Rattle.netlist.proofs.TrimmedRules.{blind_operands}
use Rattle.codec.specs.Within.{Within}
use Rattle.retiming.specs.Rewrite.{Timing, Entry, Reg, new_table, new_element}
use Rattle.retiming.specs.Gates.{Spot, Old, One, Chain, Shown, Pick, gated_source, spot_node, gated_with}
use Rattle.retiming.specs.GatesLayout.{SpotSound}
use Rattle.retiming.specs.Candidate.{Retimes}
use Rattle.retiming.proofs.Candidate.{operands-new}
use Rattle.retiming.proofs.New.{at_node}

-- ---- a node of the rewritten netlist, by its spot

module _ (N : Net) (f : Timing) (Z : ℕ → ℕ → ℕ) where
  three-sources : (sp : Spot) → length (spot_node N f Z sp).sources ≡ 3
  unfolding spot_node
  three-sources (Old (Entry u c)) = refl
  three-sources (Old (Reg x c p j)) = refl
  three-sources One = refl
  three-sources (Chain i) = refl
  three-sources (Shown x c p k) = refl
  three-sources (Pick x c p k) = refl

  -- what an element does not read is 0
  no_source_lem : (u c p : ℕ) → operands (element_at N u) ≤ p → gated_source N f Z u c p ≡ 0
  unfolding gated_source
  no_source_lem u c p h = rw (le-ltb p (operands (element_at N u)) h)

  none_of_three : (u c p : ℕ) → operands (element_at N u) ≤ p → get_or (gated_source N f Z u c 0 ∷ gated_source N f Z u c 1 ∷ gated_source N f Z u c 2 ∷ []) p 0 ≡ 0
  none_of_three u c zero h = no_source_lem u c 0 h
  none_of_three u c (suc zero) h = no_source_lem u c 1 h
  none_of_three u c (suc (suc zero)) h = no_source_lem u c 2 h
  none_of_three u c (suc (suc (suc p))) h = refl

  -- a node with one source, and with none
  none_of_one : (a p : ℕ) → 1 ≤ p → get_or (a ∷ 0 ∷ 0 ∷ []) p 0 ≡ 0
  none_of_one a zero h = absurd (omega arith)
  none_of_one a (suc zero) h = refl
  none_of_one a (suc (suc zero)) h = refl
  none_of_one a (suc (suc (suc p))) h = refl

  none_of_none : (p : ℕ) → get_or {A = ℕ} (0 ∷ 0 ∷ 0 ∷ []) p 0 ≡ 0
  none_of_none zero = refl
  none_of_none (suc zero) = refl
  none_of_none (suc (suc zero)) = refl
  none_of_none (suc (suc (suc p))) = refl

  unread-spot : (sp : Spot) (p : ℕ) → operands (spot_node N f Z sp).element ≤ p → get_or (spot_node N f Z sp).sources p 0 ≡ 0
  unfolding spot_node
  unread-spot (Old (Entry u c)) p h = none_of_three u c p (rw (operands-new (element_at N u) (new_table N f Z u) c) at h)
  unread-spot (Old (Reg x c q j)) p h = none_of_one _ p h
  unread-spot One p h = none_of_none p
  unread-spot (Chain i) p h = none_of_one _ p h
  unread-spot (Shown x c q k) p h = none_of_none p
  unread-spot (Pick x c q k) zero h = absurd (omega arith)
  unread-spot (Pick x c q k) (suc zero) h = absurd (omega arith)
  unread-spot (Pick x c q k) (suc (suc zero)) h = absurd (omega arith)
  unread-spot (Pick x c q k) (suc (suc (suc p))) h = refl

  -- an operation stays as it is
  part_came : (e : Element) (m c b : ℕ) → new_element e m c ≡ Gate (Part b) → e ≡ Gate (Part b)
  part_came Input m c b h = h
  part_came Output m c b h = h
  part_came (Register r) m c b h = h
  part_came (Async k) m c b h = cc
  part_came (Clocked k r) m c b h = cc
  part_came (Gate o) m c b h = h

  lowest-spot : Within N → (sp : Spot) → SpotSound N f Z sp → (b : ℕ) → (spot_node N f Z sp).element ≡ Gate (Part b) → b < 256
  unfolding spot_node element_at
  lowest-spot w (Old (Entry u c)) s b h = (w.records u s.inside).lowest b (part_came (element_at N u) (new_table N f Z u) c b h)
  lowest-spot w (Old (Reg x c p j)) s b h = let z : ◌≡◌ {A = ℕ} 0 1 = cc in absurd (omega arith)
  lowest-spot w One s b h = let z : ◌≡◌ {A = ℕ} 0 1 = cc in absurd (omega arith)
  lowest-spot w (Chain i) s b h = let z : ◌≡◌ {A = ℕ} 0 1 = cc in absurd (omega arith)
  lowest-spot w (Shown x c p k) s b h = let z : ◌≡◌ {A = ℕ} 0 1 = cc in absurd (omega arith)
  lowest-spot w (Pick x c p k) s b h = let z : ◌≡◌ {A = ℕ} 0 1 = cc in absurd (omega arith)

-- ---- all of them

-- what a node of a new netlist looks like: a record of the format, but for the sizes of its numbers
pub record Shaped (x : Node) : Type 0 where
  pub three : length x.sources ≡ 3
  pub unread : (p : ℕ) → operands x.element ≤ p → get_or x.sources p 0 ≡ 0
  pub lowest : (b : ℕ) → x.element ≡ Gate (Part b) → b < 256

abbrev pub AllShaped : Net → Type 0
AllShaped M = (v : ℕ) → v < size M → Shaped (node_at M v)

pub shaped_new : (N : Net) (f : Timing) (Z : ℕ → ℕ → ℕ) → Retimes N f → Within N → AllShaped (gated_with N f Z)
shaped_new N f Z ok w =
    at_node N f Z ok (λ i sp n. Shaped n)
    (λ i k s. record { three = three-sources N f Z _; unread = unread-spot N f Z _; lowest = lowest-spot N f Z w _ s })

-- over tables that were numbered anew they look the same
part_over : (k : ℕ) (e : Element) (b : ℕ) → over_table k e ≡ Gate (Part b) → e ≡ Gate (Part b)
part_over k Input b h = h
part_over k Output b h = h
part_over k (Register r) b h = h
part_over k (Async m) b h = cc
part_over k (Clocked m r) b h = cc
part_over k (Gate o) b h = h

pub shaped_trimmed : (M : Net) → AllShaped M → AllShaped (trimmed M)
unfolding renumbered
shaped_trimmed M shaped v h =
    let x = shaped v (inside_trimmed M h) in
    subst Shaped (sym (node_trimmed M v)) (record {
      three = x.three;
      unread = λ p q. x.unread p (subst (λ (n : ℕ). n ≤ p) (blind_operands.same _ (node_at M v).element) q);
      lowest = λ b e. x.lowest b (part_over _ (node_at M v).element b e);
    })

-- at most 16 tables, so a number is one byte
table_byte : (ts : List Table) → length ts ≤ 16 → (e : Element) → HasTable ts e → table_of e < 256
table_byte ts few Input h = lit< tt
table_byte ts few Output h = lit< tt
table_byte ts few (Register r) h = lit< tt
table_byte ts few (Async m) h = omega arith
table_byte ts few (Clocked m r) h = omega arith
table_byte ts few (Gate o) h = lit< tt

module _ (M : Net) (wf : WellFormed M) (few : length M.tables ≤ 16) (shaped : AllShaped M) where
  -- at most 1,024 nodes, so a source number is two bytes
  source_small : (i : ℕ) → i < size M → (p : ℕ) → get_or (node_at M i).sources p 0 < 65536
  unfolding Sourced element_at source
  source_small i h p =
      ⊎_elim (λ l. omega (arith, wf.sourced i p h l, wf.fields.bounds.nodes)) (λ l. rw ((shaped i h).unread p l) (lit< tt)) (lt_or_le p (operands (node_at M i).element))

  -- THE LAW: a file can hold a netlist of such nodes that passes the checks
  pub within_shaped : Within M
  unfolding element_at
  within_shaped = record {
    few_tables = few;
    fields = wf.fields;
    records = λ i h. record {
      three = (shaped i h).three;
      two_bytes = source_small i h;
      unread = (shaped i h).unread;
      table = table_byte M.tables few (node_at M i).element (wf.has_table i h);
      lowest = (shaped i h).lowest;
    };
  }
