-- The theorem of what its four parts ensure.
use Rattle.std.proofs.Common.{subst}
use Rattle.circuit.specs.Shown.{Shown}
use Rattle.rules.specs.TableMarks.{TableMarks}
use Rattle.trimming.specs.Numbers.{numbers_small}
use Rattle.trimming.proofs.Trimming.{trimmed_is}
use Rattle.trimming.proofs.trim_tables.Goals as goal

pub renumber-requires-clause-bytes : goal.renumber-requires-clause-bytes
renumber-requires-clause-bytes c = numbers_small c.number_tables.array_long c.number_tables.ensures

pub returns : goal.returns
returns c =
    let p = c.requires in
    let r = trimmed_is c.args.file.now c.args.net.now p.circuit p.tables
    (subst (λ (h : Shown). TableMarks h.net c.mark_tables.new.marks) c.of.ensures c.mark_tables.ensures)
    c.number_tables.ensures c.renumber.ensures c.keep_tables.ensures in
    record { net = r.0; circuit = r.1 }
