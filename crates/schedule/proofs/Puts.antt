-- The words of a line are put into a list one by one. Assumes nothing.
use mathlib.Core.Path.{◌≡◌, refl, ◌∙◌}
use mathlib.Core.List.{List}
use Prim.Native.Nat.{ℕ, ◌+◌, ◌*◌, ◌≤◌, ◌<◌}
use native.Mathlib.Omega.{arith}
use lib.ListN.{length, get_or, set, length-set}
use Rattle.std.proofs.Common.{get_or-set_same, get_or-set_other, below_more}
use Rattle.netlist.specs.Net.{Net}
use Rattle.schedule.specs.Laid.{Laid, RunsOn, LinePut, laid_same}

-- the first k words stand from place at on, and what stands behind all eight is as it was
pub record Puts (words before after : List ℕ) (at k : ℕ) : Type 0 where
  pub kept : length after ≡ length before
  pub each : (j : ℕ) → j < k → get_or after (at + j) 0 ≡ get_or words j 0
  pub behind : (w : ℕ) → at + 8 ≤ w → get_or after w 0 ≡ get_or before w 0

pub puts_none : (words l : List ℕ) (at : ℕ) → Puts words l l at 0
puts_none words l at = record { kept = refl; each = λ j h. absurd (omega arith); behind = λ w h. refl }

pub puts_more : {words before after : List ℕ} {at k x : ℕ} → Puts words before after at k → k < 8 → at + k < length before → x ≡ get_or words k 0 → Puts words before (set after (at + k) x) at (k + 1)
puts_more {after = l} {at} {k} {x} t few room is = record {
  kept = length-set l (at + k) x ∙ t.kept;
  each = below_more _ k (λ j h. get_or-set_other l (at + k) (at + j) x 0 (λ q. omega arith) ∙ t.each j h) (get_or-set_same l (at + k) x 0 (omega (arith, t.kept)) ∙ is);
  behind = λ w h. get_or-set_other l (at + k) w x 0 (λ q. omega arith) ∙ t.behind w h;
}

-- all eight are line i
pub puts_line : {N : Net} {places : List ℕ} {v : ℕ} {words before after : List ℕ} (s i : ℕ) {k : ℕ} → Puts words before after (8 * i) k → k ≡ 8 → Laid N places (λ j. get_or words j 0) v
    → RunsOn before s (i + 1) (get_or words 0 0) (get_or words 1 0) → LinePut N places before after s i v
puts_line s i t all laid run = record {
  laid = laid_same laid (λ j h. t.each j (omega arith));
  run = rw (t.each 0 (omega arith), t.each 1 (omega arith)) run;
  behind = t.behind;
}
