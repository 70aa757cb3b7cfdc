-- Each number is still some walk's. A pass that goes on lowers what is left to raise.
use Rattle.leads.specs.Progress.{StillWalked, left}
use Rattle.leads.proofs.settle.Given as goal

abbrev pub invariant-loop-bound : goal.invariant-loop-bound
invariant-loop-bound l = StillWalked l.net.net l.initial.leads l.leads

abbrev pub decreases-loop-bound : goal.decreases-loop-bound
decreases-loop-bound l = left l.bound l.leads
