-- The fields as the code goes through them: tables as long as one stands there, nodes as long as one does, then the end. Assumes nothing.
use Rattle.std.specs.Prelude.{◌≡◌, ◌⊎◌, false, List, ℕ, ◌+◌, ◌≤◌, ◌<◌, get_or, ltb, eqb, Result, Ok, Err}
use Rattle.std.proofs.Math.Path.{refl, sym}
use Rattle.std.proofs.Common.{◌∙◌, true≢false, arith}
use Rattle.std.proofs.Math.Logic.{inl, inr, ⊎_elim}
use Rattle.std.proofs.Math.Bool.{Bool, true}
use Rattle.std.proofs.lemmas.Bool.{false≢true}
use Rattle.std.proofs.Math.ListN.{length}
use borrow.Author.Tests.{eqb-true, eq-eqb}
use Rattle.lists.specs.Paths.{pick}
use Rattle.lists.proofs.Paths.{arms, arms_lt, arms_eq, on_true, on_false, on_lt, off_lt, on_eq, off_eq}
use Rattle.lists.proofs.BelowLaws.{lt_or_le}
use Rattle.netlist.specs.Field.{tag_at, field_end}
use Rattle.netlist.specs.declared.Refusal.{Refusal}
use Rattle.netlist.specs.Refusal.{number_of, place_of}
use Rattle.netlist.specs.Scan.{Step, Refuse, table_step, node_step, end_step, step_at}

-- a table's content that has address bits and width, and neither is too large
abbrev pub Sized : List ℕ → Type 0
Sized c = (2 ≤ length c) × (get_or c 0 0 ≤ 10) × (get_or c 1 0 ≤ 16)

-- a field that is not cut off
unfoldable pub whole : List ℕ → ℕ → Bool
whole s at = pick (ltb (length s) (at + 3)) false (pick (ltb (length s) (field_end s at)) false true)

-- of a table, of a node
unfoldable pub table_stands : List ℕ → ℕ → Bool
table_stands s at = pick (whole s at) (pick (eqb (tag_at s at) 2) true (eqb (tag_at s at) 5)) false

unfoldable pub node_stands : List ℕ → ℕ → Bool
node_stands s at = pick (whole s at) (eqb (tag_at s at) 3) false

-- a step that goes on with what was found, or the refusal of it
abbrev pub stepped : {A : Type 0} → (A → Step) → Result A Refusal → Step
stepped goes (Ok x) = goes x
stepped goes (Err r) = Refuse (number_of r) (place_of r)

-- behind tables and nodes
unfoldable pub last_step : List ℕ → ℕ → Step
last_step s at = pick (whole s at) (pick (eqb (tag_at s at) 4) (end_step s at) (Refuse 3 at)) (Refuse 2 at)

module _ (s : List ℕ) (at : ℕ) where
  pub whole_inside : whole s at ≡ true → (at + 3 ≤ length s) × (field_end s at ≤ length s)
  unfolding whole
  whole_inside =
      arms_lt P _ _ (length s) (at + 3) (λ _ e. absurd (false≢true e)) (λ a.
      arms_lt P _ _ (length s) (field_end s at) (λ _ e. absurd (false≢true e)) (λ b _. (a, b)))
    where
      P : Bool → Type 0
      P x = x ≡ true → (at + 3 ≤ length s) × (field_end s at ≤ length s)

  table_known : table_stands s at ≡ true → (whole s at ≡ true) × ((tag_at s at ≡ 2) ⊎ (tag_at s at ≡ 5))
  unfolding table_stands
  table_known =
      arms P _ _ (whole s at) (λ w. arms_eq P _ _ (tag_at s at) 2 (λ two _. (w, inl two)) (λ _ e. (w, inr (five e)))) (λ _ e. absurd (false≢true e))
    where
      P : Bool → Type 0
      P x = x ≡ true → (whole s at ≡ true) × ((tag_at s at ≡ 2) ⊎ (tag_at s at ≡ 5))

      five : eqb (tag_at s at) 5 ≡ true → tag_at s at ≡ 5
      five e = eqb-true (tag_at s at) 5 e

  node_known : node_stands s at ≡ true → (whole s at ≡ true) × (tag_at s at ≡ 3)
  unfolding node_stands
  node_known = arms P _ _ (whole s at) (λ w e. (w, eqb-true (tag_at s at) 3 e)) (λ _ e. absurd (false≢true e))
    where
      P : Bool → Type 0
      P x = x ≡ true → (whole s at ≡ true) × (tag_at s at ≡ 3)

  pub table_inside : table_stands s at ≡ true → field_end s at ≤ length s
  table_inside e = (whole_inside (table_known e).0).1

  pub node_inside : node_stands s at ≡ true → field_end s at ≤ length s
  node_inside e = (whole_inside (node_known e).0).1

  module _ (t n : ℕ) where
    -- THE LAWS: the step that stands at the offset
    pub step_table : table_stands s at ≡ true → step_at s at t n ≡ table_step s at t n
    unfolding step_at
    step_table e =
        let k = table_known e in
        let i = whole_inside k.0 in
        sym (off_lt _ _ (length s) (at + 3) i.0 (off_lt _ _ (length s) (field_end s at) i.1
        (⊎_elim
        (λ (two : tag_at s at ≡ 2). on_eq _ _ (tag_at s at) 2 two refl)
        (λ (five : tag_at s at ≡ 5). off_eq _ _ (tag_at s at) 2 (λ q. omega arith) (off_eq _ _ (tag_at s at) 3 (λ q. omega arith) (off_eq _ _ (tag_at s at) 4 (λ q. omega arith) (on_eq _ _ (tag_at s at) 5 five refl))))
        k.1)))

    pub step_node : node_stands s at ≡ true → step_at s at t n ≡ node_step s at n
    unfolding step_at
    step_node e =
        let k = node_known e in
        let i = whole_inside k.0 in
        sym (off_lt _ _ (length s) (at + 3) i.0 (off_lt _ _ (length s) (field_end s at) i.1 (off_eq _ _ (tag_at s at) 2 (λ q. omega (arith, k.1)) (on_eq _ _ (tag_at s at) 3 k.1 refl))))

    -- behind the tables, where a node has come or no table stands there
    module _ (no_table_lem : n ≡ 0 → table_stands s at ≡ false) (no_Node : node_stands s at ≡ false) where
      late : whole s at ≡ true → (tag_at s at ≡ 2) ⊎ (tag_at s at ≡ 5) → table_step s at t n ≡ last_step s at
      unfolding table_step last_step table_stands
      late w tag =
          let stands : table_stands s at ≡ true = sym (on_true _ _ (whole s at) w (⊎_elim (λ (two : tag_at s at ≡ 2). on_eq _ _ (tag_at s at) 2 two refl) (λ (five : tag_at s at ≡ 5). off_eq _ _ (tag_at s at) 2 (λ q. omega arith) (sym (eq-eqb (tag_at s at) 5 five))) tag)) in
          let some : 0 < n = ⊎_elim (λ (h : 0 < n). h) (λ (h : n ≤ 0). absurd (true≢false (sym stands ∙ no_table_lem (omega arith)))) (lt_or_le 0 n) in
          let four : tag_at s at ≡ 4 → ⊥ = λ q. ⊎_elim (λ (two : tag_at s at ≡ 2). omega arith) (λ (five : tag_at s at ≡ 5). omega arith) tag in
          sym (on_lt _ _ 0 n some refl) ∙ on_true _ _ (whole s at) w (off_eq _ _ (tag_at s at) 4 four refl)

      cut : whole s at ≡ false → Refuse 2 at ≡ last_step s at
      unfolding last_step
      cut e = on_false _ _ (whole s at) e refl

      pub step_last : step_at s at t n ≡ last_step s at
      unfolding step_at last_step whole node_stands
      step_last =
          arms_lt P _ _ (length s) (at + 3) (λ a. cut (sym (on_lt _ _ (length s) (at + 3) a refl))) (λ a.
          arms_lt P _ _ (length s) (field_end s at) (λ b. cut (sym (off_lt _ _ (length s) (at + 3) a (on_lt _ _ (length s) (field_end s at) b refl)))) (λ b.
          let w : whole s at ≡ true = sym (off_lt _ _ (length s) (at + 3) a (off_lt _ _ (length s) (field_end s at) b refl)) in
          arms_eq P _ _ (tag_at s at) 2 (λ two. late w (inl two)) (λ _.
          arms_eq P _ _ (tag_at s at) 3 (λ three. absurd (true≢false (on_true _ _ (whole s at) w (sym (eq-eqb (tag_at s at) 3 three)) ∙ no_Node))) (λ _.
          arms_eq P _ _ (tag_at s at) 4 (λ four. on_true _ _ (whole s at) w (on_eq _ _ (tag_at s at) 4 four refl)) (λ other.
          arms_eq P _ _ (tag_at s at) 5 (λ five. late w (inr five)) (λ _. on_true _ _ (whole s at) w (off_eq _ _ (tag_at s at) 4 other refl)))))))
        where
          P : Step → Type 0
          P x = x ≡ last_step s at
