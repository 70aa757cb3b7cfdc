-- Every node but the output ports stands in the list, and what an inner node reads stands before it. Assumes nothing.
use Rattle.std.specs.Prelude.{◌≡◌, refl, ◌⊎◌, Bool, true, false, not, List, ℕ, ◌+◌, ◌-◌, ◌≤◌, ◌<◌, get_or}
use Rattle.std.proofs.Common.{sym, ap, ◌∙◌, inl, inr, ⊎_elim, true≢false, zero-add, arith}
use Rattle.std.proofs.Math.Path.{subst}
use Rattle.std.proofs.lemmas.Bool.{false≢true}
use Rattle.lists.specs.Lists.{count_below}
use Rattle.lists.proofs.BelowLaws.{lt_or_le, count_below-lt, count_below-le, count_below_not, count_below_subset}
use Rattle.lists.specs.SelectLaws.{Member}
use Rattle.lists.proofs.SelectLaws.{some_member}
use Rattle.netlist.specs.declared.Element.{Element}
use Rattle.netlist.specs.declared.Element.TheVariants.{Input, Output, Register, Async, Clocked, Gate}
use Rattle.netlist.specs.Net.{Net, size, element_at, source, operands, within_clock, in_clock, is_input, is_output, holds_word, Sourced}
use Rattle.netlist.specs.Checks.{WellFormed}
use Rattle.circuit.specs.Order.{Stands, Complete}
use Rattle.evaluate.specs.Rows.{row_test}
use Rattle.evaluate.specs.declared.Row.TheVariants.{Inputs, Outputs, State}
use Rattle.schedule.specs.Lines.{is_inner}
use Rattle.schedule.specs.Listed.{ListsFrom, inner_at, Listed}
use Rattle.schedule.specs.declared.Sizes.{Sizes}

-- ---- the classes of elements

holder_no_port : (e : Element) → holds_word e ≡ true → not (is_input e) ≡ true
holder_no_port Input h = absurd (false≢true h)
holder_no_port Output h = refl
holder_no_port (Register r) h = refl
holder_no_port (Async m) h = refl
holder_no_port (Clocked m r) h = refl
holder_no_port (Gate o) h = refl

classes : (e : Element) → is_output e ≡ false → (is_input e ≡ true) ⊎ (holds_word e ≡ true) ⊎ (is_inner e ≡ true)
classes Input h = inl refl
classes Output h = absurd (true≢false h)
classes (Register r) h = inr (inl refl)
classes (Async m) h = inr (inr refl)
classes (Clocked m r) h = inr (inl refl)
classes (Gate o) h = inr (inr refl)

-- an inner node passes on all its operands within the clock
inner_within : (e : Element) → is_inner e ≡ true → within_clock e ≡ operands e
inner_within Input h = refl
inner_within Output h = refl
inner_within (Register r) h = absurd (false≢true h)
inner_within (Async m) h = refl
inner_within (Clocked m r) h = absurd (false≢true h)
inner_within (Gate o) h = refl

-- ---- a class in the list

module _ {l : List ℕ} {k n : ℕ} {q : ℕ → Bool} (t : ListsFrom l k q (λ v. v) n) {j : ℕ} where
  pub listed_member : j < count_below q n → Member q n j (get_or l (k + j) 0)
  listed_member h =
      let r = some_member q n j h in
      subst (Member q n j) (sym (ap (λ (i : ℕ). get_or l (k + i) 0) (sym r.1.place) ∙ t.each r.0 r.1.low r.1.on)) r.1

  pub member_listed : {v : ℕ} → Member q n j v → get_or l (k + j) 0 ≡ v
  member_listed {v} m = ap (λ (i : ℕ). get_or l (k + i) 0) (sym m.place) ∙ t.each v m.low m.on

-- no node is in both of the first two
pub few_front : (N : Net) (n : ℕ) → count_below (row_test Inputs N) n + count_below (row_test State N) n ≤ n
few_front N n =
    let q = row_test Inputs N in
    omega (arith, count_below_not q n, count_below_subset (row_test State N) (λ v. not (q v)) n (λ v l h. holder_no_port (element_at N v) h))

module _ {N : Net} {order nodes : List ℕ} {z : Sizes} (t : Listed N order nodes z) where
  pub few_lines : z.lines ≤ size N + size N
  few_lines = omega (arith, few_front N (size N), t.all_ports, t.all_holders, t.all_inner, count_below-le (inner_at N order) (size N))

  pub few_outputs : z.outputs ≤ size N
  few_outputs = omega (arith, t.all_outputs, count_below-le (row_test Outputs N) (size N))

  pub ports_inside : (j : ℕ) → j < z.outputs → get_or nodes (z.lines + j) 0 < size N
  ports_inside j h = let k : j < count_below (row_test Outputs N) (size N) = omega (arith, t.all_outputs) in (listed_member t.outputs k).low

  -- ---- what stands where

  -- the first two classes, and the inner nodes that have their turn before T
  abbrev up_to : ℕ → ℕ
  up_to T = z.inputs + z.held + count_below (inner_at N order) T

  module _ (T : ℕ) {v : ℕ} (h : v < size N) where
    port_stands : is_input (element_at N v) ≡ true → Stands nodes (up_to T) v
    port_stands e = (0 + count_below (row_test Inputs N) v, omega (arith, t.all_ports, count_below-lt (row_test Inputs N) v (size N) e h), t.ports.each v h e)

    holder_stands : holds_word (element_at N v) ≡ true → Stands nodes (up_to T) v
    holder_stands e = (z.inputs + count_below (row_test State N) v, omega (arith, t.all_holders, count_below-lt (row_test State N) v (size N) e h), t.holders.each v h e)

    inner_stands : T ≤ size N → Stands order T v → is_inner (element_at N v) ≡ true → Stands nodes (up_to T) v
    inner_stands few (j, l, e) i =
        let on : inner_at N order j ≡ true = ap (λ (u : ℕ). is_inner (element_at N u)) e ∙ i in
        (up_to j, omega (arith, count_below-lt (inner_at N order) j T on l), t.inner.each j (omega arith) on ∙ e)

    node_stands_lem : T ≤ size N → Stands order T v → is_output (element_at N v) ≡ false → Stands nodes (up_to T) v
    node_stands_lem few s e = ⊎_elim port_stands (⊎_elim holder_stands (inner_stands few s)) (classes (element_at N v) e)

  -- ---- what a node reads

  module _ (wf : WellFormed N) (whole : Complete in_clock N order) where
    source_stands : (T : ℕ) {v p : ℕ} → v < size N → p < operands (element_at N v) → T ≤ size N → Stands order T (source N v p) → Stands nodes (up_to T) (source N v p)
    unfolding Sourced
    source_stands T {v} {p} h l few s = node_stands_lem T (wf.sourced v p h l) few s (wf.outputs_unread v p h l)

    pub reads : {v p : ℕ} → v < size N → p < operands (element_at N v) → Stands nodes z.lines (source N v p)
    unfolding Sourced
    reads {v} {p} h l = subst (λ (b : ℕ). Stands nodes b (source N v p)) (sym t.all_inner) (source_stands (size N) h l (omega arith) (whole.all (source N v p) (wf.sourced v p h l)))

    -- the node of an inner line: what it reads stands before it
    pub record InnerNode (i v : ℕ) : Type 0 where
      pub inside : v < size N
      pub inner : is_inner (element_at N v) ≡ true
      pub before : (p : ℕ) → p < operands (element_at N v) → Stands nodes i (source N v p)

    turn : (i u : ℕ) → u < size N → inner_at N order u ≡ true → i ≡ up_to u → InnerNode i (get_or order u 0)
    turn i u l on e = record {
      inside = inside;
      inner = on;
      before = λ p h. subst (λ (b : ℕ). Stands nodes b (source N v p)) (sym e)
          (source_stands u inside h (omega arith) (whole.ordered.after u p l (rw (inner_within (element_at N v) on) h)));
    }
      where
        v : ℕ
        v = get_or order u 0

        inside : v < size N
        inside = whole.ordered.inside u l

    pub inner_node : (i : ℕ) → z.inputs + z.held ≤ i → i < z.lines → InnerNode i (get_or nodes i 0)
    inner_node i low high =
        let r = some_member (inner_at N order) (size N) (i - (z.inputs + z.held)) (omega (arith, t.all_inner)) in
        let e : i ≡ up_to r.0 = omega (arith, r.1.place) in
        subst (InnerNode i) (sym (ap (λ (j : ℕ). get_or nodes j 0) e ∙ t.inner.each r.0 r.1.low r.1.on)) (turn i r.0 r.1.low r.1.on e)

    -- every line is a node's
    pub lines_inside : (i : ℕ) → i < z.lines → get_or nodes i 0 < size N
    lines_inside i h =
        ⊎_elim (λ l. subst (λ (j : ℕ). get_or nodes j 0 < size N) (zero-add i) (listed_member t.ports (omega (arith, t.all_ports))).low)
        (λ l. ⊎_elim (λ m. subst (λ (j : ℕ). get_or nodes j 0 < size N) (let e : z.inputs + (i - z.inputs) ≡ i = omega arith in e) (listed_member t.holders (omega (arith, t.all_holders))).low)
        (λ m. (inner_node i m h).inside) (lt_or_le i (z.inputs + z.held))) (lt_or_le i z.inputs)
