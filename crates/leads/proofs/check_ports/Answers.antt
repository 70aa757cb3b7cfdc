-- The first port that owes is the lowest.
use mathlib.Core.Path.{◌≡◌, sym, subst, ◌∙◌}
use mathlib.Core.List.{[], ◌∷◌}
use Prim.Native.Nat.{ℕ}
use native.Mathlib.Omega.{arith}
use Rattle.netlist.specs.Net.{size}
use Rattle.lists.proofs.SearchLaws.{lowest_here}
use Rattle.netlist.specs.Verdict.{Fine, Refuses, at_lowest, verdict}
use Rattle.netlist.proofs.Places.{skip, refuses}
use Rattle.leads.specs.Debts.{owing_by}
use Rattle.leads.proofs.check_ports.Goals as goal

pub returns-then-owes : goal.returns-then-owes
returns-then-owes c =
    let N = c.args.net.now.net in
    let L = c.args.leads.now in
    let v = c.loop-v.v in
    let low = lowest_here (size N) (owing_by N c.origin-base.result L) v c.loop-v.invariant (omega arith) (sym c.owes.ensures ∙ c.if-owes.true) in
    subst (λ (b : ℕ). Refuses 12 v ≡ verdict (at_lowest 12 (size N) (owing_by N b L) ∷ [])) c.origin-base.ensures
    (sym (refuses 12 (size N) (owing_by N c.origin-base.result L) [] v (sym low, omega arith)))

pub returns : goal.returns
unfolding verdict
returns c =
    let N = c.args.net.now.net in
    let L = c.args.leads.now in
    subst (λ (b : ℕ). Fine ≡ verdict (at_lowest 12 (size N) (owing_by N b L) ∷ [])) c.origin-base.ensures
    (sym (skip (at_lowest 12 (size N) (owing_by N c.origin-base.result L)) [] (λ v l. c.loop-v.invariant v (omega arith))))
