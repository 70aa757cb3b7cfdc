use Rattle.first_clocks.specs.Holders.{Holder}
use Rattle.first_clocks.proofs.holders.walk_back.Given as goal

abbrev pub invariant-loop-back : goal.invariant-loop-back
invariant-loop-back l = Holder l.net.net l.from.node l._back l.holder
