-- A file that the rewriter accepts in a mode, and its new file: what the checks leave of the one, and that the other passes the reader and has no asynchronous ROM.
-- Assumes nothing.
use Rattle.std.specs.Prelude.{List, ℕ}
use Rattle.retiming.specs.declared.Mode.{Mode}
use Rattle.retiming.specs.Past.{Past}
use Rattle.retiming.specs.Modes.{mode_verdict}

-- ---- what 1 to 13 leave of a file

abbrev pub Past13 : Mode → List ℕ → Type 0
Past13 mode s = Past (mode_verdict mode) s
