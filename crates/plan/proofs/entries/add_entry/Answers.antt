-- Both words are put, where there is room.
use mathlib.Core.Path.{sym, subst}
use mathlib.Core.List.{List}
use Prim.Native.Nat.{ℕ}
use Rattle.plan.specs.Entries.{EntryPut}
use Rattle.plan.specs.EntriesLaws.{entry-put, entry_out}
use Rattle.plan.proofs.entries.add_entry.Goals as goal
use Rattle.plan.proofs.entries.add_entry.Goals.{then-count-lt1024, else-count-lt1024}

pub returns-clause-put : goal.returns-clause-put
returns-clause-put c =
    let a = c.args in
    elim c.if-count-lt1024.branch [
      | then-count-lt1024 w ↦ subst (λ (l : List ℕ). EntryPut a.plan.now l a.count a.u a.word) (sym w.plan-is) (entry-put a.plan.now a.count a.u a.word w.if-count-lt1024.true)
      | else-count-lt1024 w ↦ subst (λ (l : List ℕ). EntryPut a.plan.now l a.count a.u a.word) (sym w.plan-is) (entry_out a.plan.now a.count a.u a.word c.told-plan w.if-count-lt1024.false)
    ]
