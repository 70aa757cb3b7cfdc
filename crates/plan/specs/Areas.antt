-- The sections of the plan's area. Assumes nothing.
use Rattle.std.specs.Prelude.{List, ℕ}
use Rattle.lists.specs.Sections.{section}

abbrev pub owners_in : List ℕ → List ℕ
owners_in l = section 0 1024 l

abbrev pub words_in : List ℕ → List ℕ
words_in l = section 1024 1024 l

abbrev pub late_in : List ℕ → List ℕ
late_in l = section 2048 1024 l

abbrev pub firsts_in : List ℕ → List ℕ
firsts_in l = section 3072 1024 l

abbrev pub sources_in : List ℕ → List ℕ
sources_in l = section 4096 3072 l
