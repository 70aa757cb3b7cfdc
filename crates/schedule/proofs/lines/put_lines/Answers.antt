use mathlib.Core.Path.{◌∙◌}
use native.Mathlib.Omega.{arith}
use Rattle.schedule.specs.Laid.{laid_more}
use Rattle.schedule.proofs.lines.put_lines.Goals as goal

pub loop-i-preserved : goal.loop-i-preserved
loop-i-preserved c =
    let t = c.loop-i in
    (c.put_line.auto.schedule ∙ t.invariant.0, laid_more t.invariant.1 (omega arith) (omega arith) c.put_line.ensures)
