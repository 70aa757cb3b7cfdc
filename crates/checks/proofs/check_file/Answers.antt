-- What opening tells, as an answer.
use Rattle.checks.specs.Open.{open_shown}
use Rattle.checks.specs.Opens.{check_refused, check_accepted}
use Rattle.checks.proofs.check_file.Goals as goal

pub returns-in-Ok : goal.returns-in-Ok
returns-in-Ok c = check_accepted (open_shown c.in-Ok.ensures.ok)

pub returns-in-Err : goal.returns-in-Err
returns-in-Err c = rw c.from.ensures (check_refused _ c.in-Err.ensures.err)
