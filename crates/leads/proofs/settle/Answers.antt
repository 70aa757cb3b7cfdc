-- Each number is still some walk's: one over the bound shows a closed debt, and where none was raised they are settled.
use mathlib.Core.Path.{sym, ◌∙◌}
use native.Mathlib.Omega.{arith}
use Rattle.leads.proofs.Relaxing.{bound_few}
use Rattle.leads.proofs.Settling.{over_found, none_over}
use Rattle.leads.proofs.settle.Goals as goal

pub returns-then-over_bound-clause-outcome : goal.returns-then-over_bound-clause-outcome
returns-then-over_bound-clause-outcome c ends w =
    over_found _ c.requires.sourced c.node_count-n.ensures.count (c.loop-bound.invariant ends w) c.requires.bound (sym c.over_bound.ensures ∙ c.if-over_bound.true)

pub returns-then-pass-eq0-clause-outcome : goal.returns-then-pass-eq0-clause-outcome
returns-then-pass-eq0-clause-outcome c ends w =
    none_over _ c.requires.sourced c.node_count-n.ensures.count (c.loop-bound.invariant ends w) (sym c.over_bound.ensures ∙ c.if-over_bound.false) c.pass.ensures c.if-pass-eq0.true

pub pass-requires-clause-bound : goal.pass-requires-clause-bound
pass-requires-clause-bound c = omega (arith, bound_few c.args.net.now.net (omega arith))
