use mathlib.Core.Path.{sym, ap, ◌∙◌}
use mathlib.Core.Bool.{Bool}
use mathlib.Core.Logic.{⊎_elim}
use Prim.Native.Nat.{ℕ, suc, ◌<◌}
use native.Mathlib.Omega.{arith}
use lib.ListN.{get_or}
use borrow.Author.Tests.{lt-ltb, le-ltb}
use Rattle.lists.specs.Lists.{all_below}
use Rattle.lists.proofs.BelowLaws.{all_below_intro, lt-suc_split}
use Rattle.lists.proofs.SearchLaws.{all_fails}
use Rattle.netlist.specs.Net.{element_at, source, in_clock, Sourced}
use Rattle.order.specs.Pass.{on}
use Rattle.order.specs.Order.{flags_in}
use Rattle.order.proofs.Places.{flag_read}
use Rattle.order.proofs.missing.Goals as goal

pub read_at-requires : goal.read_at-requires
unfolding Sourced
read_at-requires c =
    let N = c.args.net.now.net in
    let n = c.count_at-n in
    let inside = c.requires.sourced c.args.v c.loop-p.p c.requires.node (omega (arith, c.loop-p-test.true, n.ensures.count, in_clock.few (element_at N c.args.v))) in
    omega (arith, c.source-u.ensures.source, inside, c.bounds.ensures.nodes, c.told-area)

pub returns-then-read_at-eq0-clause-none : goal.returns-then-read_at-eq0-clause-none
unfolding Sourced
returns-then-read_at-eq0-clause-none c e =
    let a = c.args in
    let N = a.net.now.net in
    absurd (omega (arith, e, c.source-u.ensures.source, c.requires.sourced a.v c.loop-p.p c.requires.node (omega (arith, c.loop-p-test.true, c.count_at-n.ensures.count, in_clock.few (element_at N a.v))), c.bounds.ensures.nodes))

pub returns-then-read_at-eq0-clause-some : goal.returns-then-read_at-eq0-clause-some
returns-then-read_at-eq0-clause-some c _ =
    let a = c.args in
    let N = a.net.now.net in
    let p = c.loop-p.p in
    let flag = flag_read a.area.now c.told-area c.source-u.ensures.source c.read_at.ensures in
    let q : ℕ → Bool = λ j. on (flags_in a.area.now) (source N a.v j) in
    let n = c.count_at-n in
    let off = le-ltb 0 (get_or (flags_in a.area.now) (source N a.v p) 0) (omega (arith, c.if-read_at-eq0.true, flag)) in
    ap (λ (k : ℕ). all_below k q) (sym n.ensures.count) ∙ all_fails n.result q p c.loop-p-test.true off

pub loop-p-preserved : goal.loop-p-preserved
loop-p-preserved c =
    let a = c.args in
    let N = a.net.now.net in
    let p = c.loop-p.p in
    let flag = flag_read a.area.now c.told-area c.source-u.ensures.source c.read_at.ensures in
    let here = lt-ltb 0 (get_or (flags_in a.area.now) (source N a.v p) 0) (omega (arith, c.if-read_at-eq0.false, flag)) in
    λ j h. ⊎_elim (λ l. c.loop-p.invariant j l) (λ e. ap (λ (k : ℕ). on (flags_in a.area.now) (source N a.v k)) e ∙ here) (lt-suc_split (let b : j < suc p = omega arith in b))

pub returns-clause-none : goal.returns-clause-none
returns-clause-none c _ =
    let a = c.args in
    let N = a.net.now.net in
    let q : ℕ → Bool = λ j. on (flags_in a.area.now) (source N a.v j) in
    let n = c.count_at-n in
    ap (λ (k : ℕ). all_below k q) (sym n.ensures.count) ∙ all_below_intro n.result q (λ j h. c.loop-p.invariant j (omega (arith, h, c.loop-p-test.false)))
