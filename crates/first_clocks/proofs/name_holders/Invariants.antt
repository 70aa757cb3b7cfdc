use Prim.Native.Nat.{◌≤◌}
use Rattle.first_clocks.specs.Holders.{Remembered}
use Rattle.first_clocks.specs.Queue.{dues_in, Queued}
use Rattle.first_clocks.specs.Wanted.{NamedFrom}
use Rattle.first_clocks.proofs.name_holders.Given as goal

abbrev pub invariant-loop-k : goal.invariant-loop-k
invariant-loop-k l = (l.limit ≤ 65535) × Remembered l.net.net l.last
    × NamedFrom l.net.net l.clocks l.wanted l.initial.found (dues_in l.queue) l.found l.limit l.k × Queued l.queue l.k
