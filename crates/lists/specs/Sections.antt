-- A part of a work area that stands for a list of its own: so many words from a place on. Assumes nothing.
use Rattle.std.specs.Prelude.{List, ℕ, take, drop}

abbrev pub section : ℕ → ℕ → List ℕ → List ℕ
section at n l = take n (drop at l)
