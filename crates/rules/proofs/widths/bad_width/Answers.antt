-- Its rule is broken.
use mathlib.Core.Path.{sym}
use Rattle.rules.proofs.WidthLaws.{judged}
use Rattle.rules.proofs.widths.bad_width.Goals as goal

pub returns : goal.returns
returns c = judged c.args.net.now.net c.args.v _ (sym c.width_rule.ensures)
