-- Two registers in their places, and what else the gate reads.
use Rattle.std.proofs.Common.{refl, arith}
use Rattle.steering.specs.PairsPut.{pair_room, pair_full}
use Rattle.steering.proofs.pairs.put_pair.Goals as goal

pub returns-then-r-lt1024 : goal.returns-then-r-lt1024
returns-then-r-lt1024 c =
    let a = c.args in
    let p = c.put_register in
    let q = c.put_register-2 in
    let put = pair_room a.plan.now p.new.plan q.new.plan a.r a.s a.clock a.steer c.told-plan p.ensures q.ensures _ _ a.next c.if-r-lt1024.true refl refl in
    record { owners = put.0; late = put.1; sources = put.2; words = put.3 }

pub returns-else-r-lt1024 : goal.returns-else-r-lt1024
returns-else-r-lt1024 c =
    let a = c.args in
    let p = c.put_register in
    let q = c.put_register-2 in
    let put = pair_full a.plan.now p.new.plan q.new.plan a.r a.s a.clock a.steer c.told-plan p.ensures q.ensures a.next (omega (arith, c.if-r-lt1024.false)) in
    record { owners = put.0; late = put.1; sources = put.2; words = put.3 }
