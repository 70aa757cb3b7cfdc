-- The answer to what was read. Assumes nothing.
use Rattle.std.specs.Prelude.{◌≡◌, List, ℕ, ◌≤◌, length, take, replicate}
use Rattle.std.proofs.Common.{arith, length-take}
use Rattle.netlist.specs.declared.Answer.{Answer}
use Rattle.codec.specs.Bytes.{Bytes}
use Rattle.retiming.specs.declared.Mode.{Mode}
use Rattle.retiming.specs.Modes.{mode_rewrite}

-- some bytes, no more than there is room for, have this answer in a mode
pub record Answers (mode : Mode) (r : Answer) : Type 0 where
  pub bytes : List ℕ
  pub each : Bytes bytes
  pub few : length bytes ≤ 46001
  pub answered : r ≡ (mode_rewrite mode bytes (replicate 46000 0)).answer

pub answers : (mode : Mode) (n : ℕ) (l : List ℕ) {r : Answer} → Bytes (take n l) → length l ≤ 46001 → r ≡ (mode_rewrite mode (take n l) (replicate 46000 0)).answer → Answers mode r
answers mode n l b h e = record { bytes = take n l; each = b; few = omega (arith, length-take n l); answered = e }
