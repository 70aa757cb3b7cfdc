-- The readers passed ask no more of the numbers as they were, if none was raised.
use Prim.Native.Nat.{◌*◌, ◌≤◌}
use Rattle.leads.specs.Progress.{Quiet, Progress}
use Rattle.leads.proofs.pass.Given as goal

abbrev pub invariant-loop-x : goal.invariant-loop-x
invariant-loop-x l = record {
  few : l.raised ≤ 3 * l.x;
  progress : Progress l.net.net l.bound l.initial.leads l.leads l.raised (Quiet l.net.net l.bound l.x);
}
