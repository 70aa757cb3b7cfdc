-- A loop that writes piece after piece, over plain values: `done`, of this size, is written. Assumes nothing.
use Rattle.std.specs.Prelude.{◌≡◌, refl, List, [], ◌++◌, ℕ, ◌+◌, ◌≤◌, length}
use Rattle.std.proofs.Common.{ap, sym, ◌∙◌, arith, length-append}
use Rattle.writer.specs.Written.{Puts, puts_none, puts_as, puts_length, puts_more}

pub record Turn (o₀ : List ℕ) (at : ℕ) (done : List ℕ) (size next : ℕ) (o : List ℕ) : Type 0 where
  pub counted : length done ≡ size
  pub room : at + size ≤ length o₀
  pub puts : Puts o₀ at done next o

pub start : {o : List ℕ} {at : ℕ} → at ≤ length o → Turn o at [] 0 at o
start h = record { counted = refl; room = omega arith; puts = puts_none refl h }

module _ {o₀ : List ℕ} {at : ℕ} {done : List ℕ} {size next : ℕ} {o : List ℕ} (t : Turn o₀ at done size next o) where
  pub same : length o ≡ length o₀
  same = puts_length (omega arith) t.puts

  -- a piece has room where the whole has
  pub fits : (k : ℕ) → at + (size + k) ≤ length o₀ → next + k ≤ length o
  fits k h = omega (arith, same)

  pub turns : {piece : List ℕ} {last : ℕ} {o'' : List ℕ} → Puts o next piece last o'' → {all : List ℕ} {n : ℕ}
      → all ≡ done ++ piece → n ≡ size + length piece → at + n ≤ length o₀ → Turn o₀ at all n last o''
  turns {piece} p e k h =
      record {
        counted = ap length e ∙ length-append done piece ∙ omega arith;
        room = h;
        puts = puts_as (sym e) (puts_more (omega arith) t.puts p);
      }

  pub ends : {all : List ℕ} → done ≡ all → Puts o₀ at all next o
  ends e = puts_as e t.puts
