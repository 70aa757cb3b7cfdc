use Rattle.std.proofs.Common.{◌∙◌, sym, arith}
use Rattle.std.proofs.lemmas.Result.{err_from_is_err_and}
use Rattle.reader.specs.Fields.{table_inside}
use Rattle.circuit.proofs.Heading.{built_none}
use Rattle.opening.specs.Turn.{start, table_bounds, table_turns, bad_table, table_taken}
use Rattle.opening.proofs.fill_tables.Goals as goal

pub loop-at-init : goal.loop-at-init
loop-at-init c = start _ _ c.requires.small c.requires.headed (built_none c.args.net.now c.requires.room)

pub table_end-requires : goal.table_end-requires
table_end-requires c = record { small = c.loop-at.invariant.small; inside = table_inside _ _ (sym c.table_stands.ensures ∙ c.loop-at-test.true) }

pub returns-in_err-next-clause-err : goal.returns-in_err-next-clause-err
returns-in_err-next-clause-err c =
    let p = err_from_is_err_and c.from_residual.result c.from_residual.ensures.1 in
    rw (p.1, p.2) (bad_table c.loop-at.invariant (sym c.table_stands.ensures ∙ c.loop-at-test.true) _ c.in_err-next.ensures)

pub put_table-requires-clause-few : goal.put_table-requires-clause-few
put_table-requires-clause-few c = (table_bounds c.loop-at.invariant (table_taken c.loop-at.invariant (sym c.table_stands.ensures ∙ c.loop-at-test.true) c.in_ok-next.ensures)).2

pub loop-at-smaller : goal.loop-at-smaller
loop-at-smaller c = omega (arith, table_bounds c.loop-at.invariant (table_taken c.loop-at.invariant (sym c.table_stands.ensures ∙ c.loop-at-test.true) c.in_ok-next.ensures))

pub loop-at-preserved : goal.loop-at-preserved
loop-at-preserved c = table_turns c.loop-at.invariant (table_taken c.loop-at.invariant (sym c.table_stands.ensures ∙ c.loop-at-test.true) c.in_ok-next.ensures) c.put_table.ensures
