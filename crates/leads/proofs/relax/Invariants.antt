-- The operands passed are served by the numbers as they were, if none was raised.
use mathlib.Core.Path.{◌≡◌}
use Prim.Native.Nat.{◌≤◌}
use lib.ListN.{length}
use Rattle.leads.specs.Progress.{ServedTo, Progress}
use Rattle.leads.proofs.relax.Given as goal

abbrev pub invariant-loop-p : goal.invariant-loop-p
invariant-loop-p l = record {
  room : length l.leads ≡ 1024;
  few : l.raised ≤ l.p;
  progress : Progress l.net.net l.bound l.initial.leads l.leads l.raised (ServedTo l.net.net l.x l.own l.p);
}
