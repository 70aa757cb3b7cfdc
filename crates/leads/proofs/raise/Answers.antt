-- The two ways: the number stands, or it is raised.
use native.Mathlib.Omega.{arith}
use Rattle.leads.specs.Progress.{enough, lifted}
use Rattle.leads.proofs.raise.Goals as goal

pub returns-then-leads-u : goal.returns-then-leads-u
returns-then-leads-u c = lifted (omega arith)

pub returns : goal.returns
returns c = enough (omega arith)
