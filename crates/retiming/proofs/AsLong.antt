-- Each walk of the new netlist through the operands of an old one is as long, where it is closed or goes from port to port: the operands tell its length, but for what
-- its two ends add. Document 02, T-07, over any timing that serves. Assumes nothing.
use Rattle.std.specs.Prelude.{◌≡◌, refl, true, false, ℕ, ◌+◌, ◌<◌}
use Rattle.std.proofs.Math.Path.{ap}
use Rattle.std.proofs.Common.{◌∙◌, subst, ⊎_elim}
use mathlib.Core.List.{List, [], ◌∷◌, map}
use native.Mathlib.Omega.{arith}
use Rattle.lists.specs.Lists.{one}
use Rattle.lists.proofs.BelowLaws.{true_or_false}
use Rattle.netlist.specs.Net.{Net, element_at, is_register, is_memory, is_input, is_output}
use Rattle.netlist.proofs.Memories.{memory_kinds}
use Rattle.retiming.specs.Leads.{async_here, Walk, here, step, steps}
use Rattle.retiming.specs.Rewrite.{Timing, passed}
use Rattle.retiming.specs.Gates.{Spot, gated_with}
use Rattle.retiming.proofs.Elements.{input_plain, output_plain, found_inside}
use Rattle.retiming.specs.Lengths.{latency, pin, pins, comes_from_by, SameOperands}
use Rattle.retiming.proofs.Wires.{wire_none}
use Rattle.retiming.specs.GatesLayout.{spot_at}
use Rattle.retiming.specs.Candidate.{Retimes}
use Rattle.retiming.proofs.Candidate.{size-new}
use Rattle.retiming.proofs.New.{at_step}
use Rattle.retiming.proofs.ComesFrom.{came_from_lem, entry_only}
use Rattle.retiming.proofs.OperandsTell.{weight, weight-append, old_weight}
use Rattle.retiming.proofs.Accounts.{ahead, behind, carries, rank, Account, account, Idle, idle}

module _ (N : Net) (f : Timing) (Z : ℕ → ℕ → ℕ) (ok : Retimes N f) where
  abbrev new : Net
  new = gated_with N f Z

  abbrev at : ℕ → Spot
  at i = spot_at N f Z i

  new-weight : {i j : ℕ} (z : Walk new i j) → carries (at i) ≡ true → latency z + ahead f (at j) + behind N (at i) ≡ weight N (pins (comes_from_by N f Z) z) + ahead f (at i) + behind N (at j)
  unfolding latency pins weight element_at
  new-weight (here e) c = omega (arith, ap (λ (k : ℕ). ahead f (at k)) e, ap (λ (k : ℕ). behind N (at k)) e)
  new-weight (step {x = y} r z) c =
      let g = at_step N f Z ok (Account N f) (account N f Z ok) r c in
      omega (
        arith,
        g.1,
        new-weight z g.0,
        weight-append N (map (pin r.operand) (comes_from_by N f Z y)) (pins (comes_from_by N f Z) z),
        ap (λ (l : List ℕ). weight N (map (pin r.operand) l)) (came_from_lem N f Z y (subst (λ (n : ℕ). y < n) (size-new N f Z) r.inside)),
      )

  -- ---- of closed walks

  -- a walk to what carries none is one down the chain
  idle_steps : {i j : ℕ} (z : Walk new i j) → carries (at j) ≡ false → (carries (at i) ≡ false) × (steps z + rank (at i) ≡ rank (at j))
  unfolding steps
  idle_steps (here e) c = (ap (λ (k : ℕ). carries (at k)) e ∙ c, omega (arith, ap (λ (k : ℕ). rank (at k)) e))
  idle_steps (step r z) c = let k = idle_steps z c in let g = at_step N f Z ok Idle (idle N f Z ok) r k.0 in (g.0, omega (arith, k.1, g.1))

  -- so a closed one is empty
  no_steps : {i j : ℕ} (z : Walk new i j) → steps z ≡ 0 → (latency z ≡ 0) × (weight N (pins (comes_from_by N f Z) z) ≡ 0)
  unfolding steps latency pins weight
  no_steps (here e) l = (refl, refl)
  no_steps (step r z) l = absurd (omega arith)

  pub loop_as_long : {u : ℕ} (w : Walk N u u) (i : ℕ) (z : Walk new i i) → SameOperands N new (comes_from_by N f Z) w z → latency z ≡ latency w
  loop_as_long w i z e =
      ⊎_elim (λ c. omega (arith, new-weight z c, old_weight N f ok w, ap (weight N) e))
      (λ c. let k = no_steps z (omega (arith, (idle_steps z c).1)) in omega (arith, k.0, k.1, old_weight N f ok w, ap (weight N) e))
      (true_or_false (carries (at i)))

  -- ---- of walks from port to port

  entry_at : (u i : ℕ) → comes_from_by N f Z i ≡ u ∷ [] → (carries (at i) ≡ true) × (ahead f (at i) ≡ f.lead u) × (behind N (at i) ≡ async_here N u)
  unfolding carries ahead behind
  entry_at u i e = let k = (entry_only N f Z u i e).1 in (ap carries k.1, ap (ahead f) k.1, ap (behind N) k.1)

  -- what is no register and no ROM, as a port, adds nothing at the end of a walk
  level : (u : ℕ) → is_register (element_at N u) ≡ false → is_memory (element_at N u) ≡ false → (passed N u ≡ 0) × (async_here N u ≡ 0)
  unfolding async_here
  level u r m = ((wire_none N u r).1, omega (arith, memory_kinds (element_at N u), ap one m))

  pub path_as_long : {u v : ℕ} (w : Walk N u v) → is_input (element_at N u) ≡ true → is_output (element_at N v) ≡ true
      → (i j : ℕ) → comes_from_by N f Z i ≡ u ∷ [] → comes_from_by N f Z j ≡ v ∷ [] → (z : Walk new i j) → SameOperands N new (comes_from_by N f Z) w z → latency z ≡ latency w
  path_as_long {u} {v} w hu hv i j eu ev z e =
      let a = entry_at u i eu in
      let b = entry_at v j ev in
      let pu = input_plain (element_at N u) hu in
      let pv = output_plain (element_at N v) hv in
      let lu = level u pu.0 pu.1 in
      let lv = level v pv.0 pv.1 in
      omega (
        arith,
        new-weight z a.0,
        old_weight N f ok w,
        ap (weight N) e,
        a.1,
        a.2,
        b.1,
        b.2,
        lu.0,
        lu.1,
        lv.0,
        lv.1,
        ok.inputs u (found_inside N is_input refl u hu) hu,
        ok.outputs v (found_inside N is_output refl v hv) hv,
      )
