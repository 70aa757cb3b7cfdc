-- The number of each kind in a file: document 01, "Kinds". Assumes nothing.
use Rattle.std.specs.Prelude.{◌≡◌, ℕ, ◌<◌, Result, MatchResult}
use Rattle.nodes.specs.declared.kind.Kind.{Kind}
use Rattle.nodes.specs.declared.kind.Kind.TheVariants.{Input, Output, Register, Async, Clocked, Gate}
use Rattle.nodes.specs.declared.kind.NoKind.{NoKind}

abbrev pub kind_number : Kind → ℕ
kind_number Input = 0
kind_number Output = 1
kind_number Register = 2
kind_number Async = 3
kind_number Clocked = 4
kind_number Gate = 5

-- the kind that has this number, or an error where none has
abbrev pub Decodes : ℕ → Result Kind NoKind → Type 0
Decodes n r = MatchResult r (λ k. kind_number k ≡ n) (λ e. 5 < n)
