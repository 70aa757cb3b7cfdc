-- Each number is still some walk's. Each raise lowers what is left to raise by one at least, and puts three nodes on the stack at most.
use Prim.Native.Nat.{◌+◌, ◌*◌}
use Rattle.leads.specs.Progress.{StillWalked, left}
use Rattle.leads.proofs.worklist.spread.Given as goal

abbrev pub invariant-loop-depth : goal.invariant-loop-depth
invariant-loop-depth l = StillWalked l.net.net l.initial.leads l.leads

abbrev pub decreases-loop-depth : goal.decreases-loop-depth
decreases-loop-depth l = l.depth + 4 * left l.bound l.leads
