-- What opening tells, and the place in the netlist's file.
use Rattle.std.proofs.Common.{sym, subst, arith}
use Rattle.std.proofs.lemmas.Result.{err_from_is_err_and}
use Rattle.circuit.specs.Shown.{Shown}
use Rattle.checks.specs.Open.{OpenedAs, open_shown}
use Rattle.checks.specs.Serves.{words-refused, words_there, words_missing}
use Rattle.checks.proofs.place_of.Goals as goal

pub returns-in_err-open_file : goal.returns-in_err-open_file
returns-in_err-open_file c =
    let p = err_from_is_err_and c.from_residual.result c.from_residual.ensures.1 in
    rw (p.1, p.2) (words-refused _ _ _ c.in_err-open_file.ensures.err)

pub returns-then-k-table_count : goal.returns-then-k-table_count
returns-then-k-table_count c =
    let o = subst (λ (h : Shown). OpenedAs c.args.file.now h) (sym c.of-net.ensures) (open_shown c.in_ok-open_file.ensures.ok) in
    let t = c.table_place.ensures in
    words_there o.file (λ i. omega (arith, c.type_inv.file i)) _ c.table_count.ensures.count c.if-k-table_count.true (rw o.words at t.stands) (rw o.words at t.table)

pub returns-else-k-table_count : goal.returns-else-k-table_count
returns-else-k-table_count c =
    let o = subst (λ (h : Shown). OpenedAs c.args.file.now h) (sym c.of-net.ensures) (open_shown c.in_ok-open_file.ensures.ok) in
    words_missing o.file _ c.table_count.ensures.count c.if-k-table_count.false
