-- A lent output with bytes written at an offset. Assumes nothing.
use Rattle.std.specs.Prelude.{◌≡◌, ℕ, ◌+◌, ◌≤◌, set}
use Rattle.std.proofs.Common.{ap, subst, ◌∙◌, zero-add, add_assoc, arith, length-drop, length-take-le, drop-drop}
use Rattle.std.proofs.Math.Path.{ap₂}
use mathlib.Core.List.{List, [], ◌∷◌, ◌++◌, append_assoc}
use Rattle.std.proofs.Math.ListN.{length, take, drop, length-append, length-take}
use Rattle.std.proofs.Math.Seq.{sets-eq, take_at, drop-append-add}

-- o, where the bytes from an offset on are b
unfoldable pub written : List ℕ → ℕ → List ℕ → List ℕ
written o at b = take at o ++ b ++ drop (at + length b) o

module _ (o : List ℕ) (at : ℕ) where
  pub written_byte : (x : ℕ) → at + 1 ≤ length o → set o at x ≡ written o at (x ∷ [])
  unfolding written
  written_byte x h = sets-eq (x ∷ []) o at h

  pub written_none : at ≤ length o → o ≡ written o at []
  unfolding written
  written_none h = sets-eq [] o at (omega arith)

  pub length-written : (b : List ℕ) → at + length b ≤ length o → length (written o at b) ≡ length o
  unfolding written
  length-written b h = simp (length-append, length-take, length-drop) (omega arith)

  front_length : (b : List ℕ) → at ≤ length o → length (take at o ++ b) ≡ at + length b
  front_length b h = length-append (take at o) b ∙ ap (λ (n : ℕ). n + length b) (length-take-le at o h)

  -- bytes more, right after those
  pub written-more : (b c : List ℕ) → at ≤ length o → written (written o at b) (at + length b) c ≡ written o at (b ++ c)
  unfolding written
  written-more b c h =
      let n : length (take at o ++ b) ≡ at + length b = front_length b h in
      let front : take (at + length b) (take at o ++ b ++ drop (at + length b) o) ≡ take at o ++ b = take_at (take at o ++ b) (drop (at + length b) o) (at + length b) n in
      let back : drop (at + length b + length c) (take at o ++ b ++ drop (at + length b) o) ≡ drop (at + length b + length c) o = rw (← n, drop-append-add, drop-drop) in
      ap₂ (λ (x y : List ℕ). x ++ c ++ y) front back ∙ rw (append_assoc (take at o) b c, length-append, add_assoc)

-- at the front
pub written_front : (o b : List ℕ) → written o 0 b ≡ b ++ drop (length b) o
unfolding written
written_front o b = ap (λ (n : ℕ). b ++ drop n o) (zero-add (length b))

-- ---- a writer's outcome: b is written at an offset, and the next offset is returned

pub record Puts (o : List ℕ) (at : ℕ) (b : List ℕ) (next : ℕ) (o' : List ℕ) : Type 0 where
  pub offset : next ≡ at + length b
  pub holds : o' ≡ written o at b

pub puts_none : {o : List ℕ} {at : ℕ} {b : List ℕ} → b ≡ [] → at ≤ length o → Puts o at b at o
puts_none {o} {at} e h = rw e (record { offset = omega arith; holds = written_none o at h })

module _ {o : List ℕ} {at : ℕ} {b : List ℕ} {next : ℕ} {o' : List ℕ} where
  pub puts_as : {c : List ℕ} → b ≡ c → Puts o at b next o' → Puts o at c next o'
  puts_as e = subst (λ (l : List ℕ). Puts o at l next o') e

  pub puts_length : at + length b ≤ length o → Puts o at b next o' → length o' ≡ length o
  puts_length h p = ap length p.holds ∙ length-written o at b h

  -- THE LAW that carries every writer: first b, and then c
  pub puts_more : {c : List ℕ} {last : ℕ} {o'' : List ℕ} → at ≤ length o → Puts o at b next o' → Puts o' next c last o'' → Puts o at (b ++ c) last o''
  puts_more {c} h p q =
      record {
        offset = q.offset ∙ ap (λ (k : ℕ). k + length c) p.offset ∙ simp (length-append, add_assoc);
        holds = q.holds ∙ ap₂ (λ (l : List ℕ) (k : ℕ). written l k c) p.holds p.offset ∙ written-more o at b c h;
      }
