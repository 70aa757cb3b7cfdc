use Rattle.std.proofs.Common.{◌∙◌, sym, arith}
use Rattle.std.proofs.lemmas.Result.{err_from_is_err_and}
use Rattle.reader.specs.Fields.{node_inside}
use Rattle.opening.specs.Turn.{node_bounds, node_there, shown, node_turns, bad_node, node_taken}
use Rattle.opening.proofs.fill_nodes.Goals as goal

pub node_end-requires : goal.node_end-requires
node_end-requires c = record { small = c.loop-from.invariant.turn.small; inside = node_inside _ _ (sym c.node_stands.ensures ∙ c.loop-from-test.true) }

pub returns-in_err-next-clause-err : goal.returns-in_err-next-clause-err
returns-in_err-next-clause-err c =
    let p = err_from_is_err_and c.from_residual.result c.from_residual.ensures.1 in
    rw (p.1, p.2) (bad_node c.loop-from.invariant.turn (sym c.node_stands.ensures ∙ c.loop-from-test.true) _ c.in_err-next.ensures)

pub row_at-requires : goal.row_at-requires
row_at-requires c = node_there c.loop-from.invariant.turn (node_taken c.loop-from.invariant.turn (sym c.node_stands.ensures ∙ c.loop-from-test.true) c.in_ok-next.ensures)

pub push_row-requires : goal.push_row-requires
push_row-requires c =
    let w = c.loop-from.invariant.turn in
    record {
      formed = w.built.formed;
      place = shown w;
      few = (node_bounds w (node_taken w (sym c.node_stands.ensures ∙ c.loop-from-test.true) c.in_ok-next.ensures)).2;
      fits = c.row_at.ensures.fits;
    }

pub loop-from-smaller : goal.loop-from-smaller
loop-from-smaller c = omega (arith, node_bounds c.loop-from.invariant.turn (node_taken c.loop-from.invariant.turn (sym c.node_stands.ensures ∙ c.loop-from-test.true) c.in_ok-next.ensures))

pub loop-from-preserved : goal.loop-from-preserved
loop-from-preserved c =
    let w = c.loop-from.invariant.turn in record {
      tables = c.loop-from.invariant.tables;
      turn = node_turns w (node_taken w (sym c.node_stands.ensures ∙ c.loop-from-test.true) c.in_ok-next.ensures) c.row_at.ensures.node c.push_row.ensures;
      first = λ z. absurd (omega arith);
    }
