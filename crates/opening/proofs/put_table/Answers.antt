-- The head tells of one table more.
use Rattle.opening.specs.Opening.{built_table}
use Rattle.opening.proofs.put_table.Goals as goal

pub returns : goal.returns
returns c = λ ts e b. built_table _ b e c.requires.few
