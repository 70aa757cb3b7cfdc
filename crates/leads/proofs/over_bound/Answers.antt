-- No lead passed is over the bound.
use mathlib.Core.Path.{sym}
use mathlib.Core.Bool.{Bool}
use Prim.Native.Nat.{ℕ}
use native.Mathlib.Omega.{arith}
use lib.ListN.{get_or}
use borrow.Author.Tests.{lt-ltb}
use lib.Dec.{ltb}
use Rattle.lists.proofs.BelowLaws.{any_below_intro}
use Rattle.lists.proofs.SearchLaws.{any_passed}
use Rattle.leads.proofs.over_bound.Goals as goal

pub returns-then-bound-leads : goal.returns-then-bound-leads
returns-then-bound-leads c =
    let a = c.args in
    let over : ℕ → Bool = λ v. ltb a.bound (get_or a.leads.now v 0) in
    sym (any_below_intro a.n over c.loop-v.v c.loop-v-test.true (lt-ltb a.bound _ (omega arith)))

pub returns : goal.returns
returns c =
    let a = c.args in
    let over : ℕ → Bool = λ v. ltb a.bound (get_or a.leads.now v 0) in
    sym (any_passed a.n over (λ v h. c.loop-v.invariant v (omega arith)))
