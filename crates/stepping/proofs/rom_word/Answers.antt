-- Its table is there, and has a word at each address of so many bits.
use mathlib.Core.Path.{refl}
use Rattle.stepping.specs.StepLaws.{rom_line}
use Rattle.stepping.proofs.rom_word.Goals as goal

pub returns : goal.returns
returns c = rom_line c.requires.formed c.requires.line c.requires.rom c.part_of.ensures.part c.part_of-2.ensures.part refl c.table_word.ensures
