-- The word is there, or it is added; where there are too many already, none is.
use mathlib.Core.Path.{refl}
use native.Mathlib.Omega.{arith}
use Rattle.plan.specs.EntriesLaws.{copy_over, copy_there, copy_added, placing_as, placing_count, owners_room, words_room}
use Rattle.plan.proofs.entries.add_copy.Goals as goal
use Rattle.plan.proofs.entries.add_copy.Goals.{then-count-gt1024-via-then-count-gt1024, then-count-gt1024-via-else-count-gt1024+then-find_from-count}

pub returns-then-count-gt1024-clause-adds : goal.returns-then-count-gt1024-clause-adds
returns-then-count-gt1024-clause-adds c =
    elim c.then-count-gt1024.branch [
      | then-count-gt1024-via-then-count-gt1024 w ↦ record { grows = omega arith; little = omega arith; adds = λ pre d e t. copy_over pre c.args.u d c.args.c w.if-count-gt1024.true t }
      | then-count-gt1024-via-else-count-gt1024+then-find_from-count w ↦
          record { grows = omega arith; little = omega arith; adds = λ pre d e t. copy_there pre c.args.u d e w.find_from.ensures t w.if-find_from-count.true }
    ]

pub returns-clause-adds : goal.returns-clause-adds
returns-clause-adds c =
    let p = c.args.plan.now in
    let r = c.add_entry.ensures in
    record {
      grows = omega (arith, r.count);
      little = omega (arith, r.count);
      adds = λ pre d e t. placing_count r.count
          (placing_as r.put.owners r.put.words refl (copy_added pre c.args.u d e c.find_from.ensures t (owners_room p c.told-plan) (words_room p c.told-plan) c.if-find_from-count.false));
    }
