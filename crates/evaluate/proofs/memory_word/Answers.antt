-- Its table is there, and has a word at each address of so many bits.
use mathlib.Core.Path.{refl}
use Rattle.evaluate.specs.Coded.{memory_gives}
use Rattle.evaluate.proofs.memory_word.Goals as goal

pub returns : goal.returns
returns c = memory_gives _ _ c.requires.formed c.requires.node c.requires.memory c.table.ensures.table refl c.table_word.ensures
