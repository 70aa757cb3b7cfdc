-- What the head leaves of the reading. Assumes nothing.
use Rattle.std.specs.Prelude.{◌≡◌, List, [], ℕ, ◌≤◌, length}
use Rattle.netlist.specs.Scan.{walk, after_head}

-- the head stands first, and the fields are read behind it
pub record Headed (s : List ℕ) : Type 0 where
  pub goes : after_head s ≡ walk (length s) s 4 [] []
  pub room : 4 ≤ length s
