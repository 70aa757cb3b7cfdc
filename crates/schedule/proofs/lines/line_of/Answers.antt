-- Word by word.
use Rattle.schedule.specs.Laid.{laid-words}
use Rattle.schedule.proofs.lines.line_of.Goals as goal

pub returns-clause-laid : goal.returns-clause-laid
returns-clause-laid c =
    laid-words _ _ _ _ c.code-code.ensures.code c.asked_width.ensures.width c.held_number.ensures.held
    c.source_place.ensures c.source_place-2.ensures c.source_place-3.ensures
