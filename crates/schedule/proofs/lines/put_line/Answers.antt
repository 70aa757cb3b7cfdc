-- Word by word.
use Rattle.schedule.proofs.Puts.{puts_none}
use Rattle.schedule.proofs.lines.put_line.Goals as goal

pub loop-k-init : goal.loop-k-init
loop-k-init c = puts_none _ _ _
