-- What a call that failed midway has done to the bytes of a reader or a writer, where those are known. Assumes nothing.
use Rattle.std.specs.Prelude.{ℕ, List, ◌≤◌, length, take}
use Rattle.std.specs.Io.KnownBytes.{Appends, Consumes}
use Rattle.std.specs.declared.option.Option.{Option}

-- known bytes begin with a front of bs, and lose it
pub record ConsumesFront (old new : Option (List ℕ)) (bs : List ℕ) : Type 0 where
  pub count : ℕ
  pub within : count ≤ length bs
  pub lost : Consumes old new (take count bs)

-- known bytes grow by a front of bs
pub record AppendsFront (old new : Option (List ℕ)) (bs : List ℕ) : Type 0 where
  pub count : ℕ
  pub within : count ≤ length bs
  pub grown : Appends old new (take count bs)
