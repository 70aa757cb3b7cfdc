-- The numbers are the leads, and their largest is the netlist's.
use mathlib.Core.Path.{◌≡◌, ap, ◌∙◌}
use Prim.Native.Nat.{ℕ}
use native.Mathlib.Omega.{arith}
use lib.ListN.{get_or}
use Rattle.lists.specs.Lists.{largest}
use Rattle.retiming.specs.Leads.{lead}
use Rattle.retiming.specs.Rewrite.{timing, timing_by}
use Rattle.retiming.proofs.LargestLead.{leads-largest}
use Rattle.netlist.specs.Net.{size}
use Rattle.leads.proofs.largest.largest_lead.Goals as goal

pub returns : goal.returns
unfolding lead timing timing_by
returns c =
    let p = c.requires in
    let number : ℕ → ℕ = λ u. get_or c.args.leads.now u 0 in
    let e : c.loop-v.v ≡ size c.args.net.now.net = omega arith in
    c.loop-v.invariant ∙ ap (λ (k : ℕ). largest k number) e ∙ leads-largest c.args.net.now.net p.sourced p.no_debt number p.leads
