-- What is written is the reply: no rewritten file is longer than the output, and a refusal's line has its number and place.
use Rattle.std.specs.Prelude.{◌≡◌, refl, List, ℕ, ◌++◌, ◌≤◌, ◌<◌, length, take, drop, replicate, None, Some, IfSome}
use Rattle.std.proofs.Common.{sym, inl, inr, Result, Ok, Err, OnErr, ap, ap₂, subst, ◌∙◌, arith, length-take-le, take_all, append-nil}
use Rattle.std.proofs.lemmas.List.{length-replicate}
use Rattle.std.specs.declared.option.Option.{Option}
use Rattle.std.specs.Io.KnownBytes.{Appends, Consumes, IsAtEnd}
use Rattle.std.proofs.KnownBytes.{Keeps-refl}
use Rattle.std.proofs.Math.Decide.{dec_lt}
use lib.Seq.{take-append_seam, take_at}
use Rattle.codec.specs.Bytes.{Bytes}
use Rattle.netlist.specs.declared.Answer.{Answer}
use Rattle.netlist.specs.declared.Answer.TheVariants.{Accepted, Refused}
use Rattle.netlist.specs.Verdict.{Verdict, Fine, Refuses}
use Rattle.retiming.specs.declared.Mode.{Mode}
use Rattle.retiming.specs.FileRewrite.{Rewrote, written_after}
use Rattle.retiming.specs.Modes.{mode_file_verdict, mode_file, mode_rewrite}
use Rattle.retiming.proofs.RewrittenFile.{mode_rewrite_lem, accepted_written, past_13, new-length}
use Rattle.rewrite_stream.specs.Reply.{refusal_line, reply_by, reply, Replies, Fails}
use Rattle.streams.specs.Streams.{AppendsFront, ConsumesFront}

-- what a program writes of an answer and an output
abbrev pub said : Answer → List ℕ → List ℕ
said (Accepted n) out = take n out
said (Refused k p) out = refusal_line k p

-- the answer's length, where it has one, is within a rewritten file's
abbrev Within : Answer → Type 0
Within (Accepted n) = n ≤ 45175
Within (Refused k p) = Unit {0}

module _ (mode : Mode) (s out : List ℕ) (b : Bytes s) (room : length out ≡ 46000) where
  as_verdict : (v : Verdict) → mode_file_verdict mode s ≡ v → mode_rewrite mode s out ≡ written_after v (mode_file mode s) out
  as_verdict v e = mode_rewrite_lem mode s out ∙ ap (λ (w : Verdict). written_after w (mode_file mode s) out) e

  -- the bytes of the new file, or the line
  says : (v : Verdict) → mode_file_verdict mode s ≡ v → said (mode_rewrite mode s out).answer (mode_rewrite mode s out).out ≡ reply_by v (mode_file mode s)
  says Fine e =
      let short : length (mode_file mode s) ≤ 45175 = new-length mode s b (past_13 mode s e) in
      ap (λ (r : Rewrote). said r.answer r.out) (accepted_written mode s out e (omega arith)) ∙ take-append_seam (mode_file mode s) (drop (length (mode_file mode s)) out)
  says (Refuses k p) e = ap (λ (r : Rewrote). said r.answer r.out) (as_verdict (Refuses k p) e)

  within_file : (v : Verdict) → mode_file_verdict mode s ≡ v → Within (mode_rewrite mode s out).answer
  within_file Fine e =
      let short : length (mode_file mode s) ≤ 45175 = new-length mode s b (past_13 mode s e) in
      subst (λ (r : Rewrote). Within r.answer) (sym (accepted_written mode s out e (omega arith))) short
  within_file (Refuses k p) e = subst (λ (r : Rewrote). Within r.answer) (sym (as_verdict (Refuses k p) e)) tt

  pub accepted_within : {n : ℕ} → Accepted n ≡ (mode_rewrite mode s out).answer → n ≤ 46000
  accepted_within {n} e = let l : Within (Accepted n) = subst Within (sym e) (within_file (mode_file_verdict mode s) refl) in omega (arith, l)

-- the first bytes of a reader, up to so many
first_of : (had left : Option (List ℕ)) (bs : List ℕ) (m : ℕ) → Consumes had left bs → length bs ≤ m → (length bs < m → IsAtEnd left) → IfSome had (λ xs. bs ≡ take m xs)
first_of None left bs m h l e = tt
first_of (Some xs) None bs m h l e = absurd h
first_of (Some xs) (Some ys) bs m h l e = by_length (dec_lt (length bs) m)
  where
    by_length : Dec (length bs < m) → bs ≡ take m xs
    by_length (yes s) = sym (take_all m bs l) ∙ ap (take m) (sym (append-nil bs) ∙ ap (λ r. bs ++ r) (sym (e s)) ∙ sym h)
    by_length (no f) = let same : length bs ≡ m = omega arith in sym (take_at bs ys m same) ∙ ap (take m) (sym h)

-- a fact that holds whatever the result is
pub on_err : {X E P : Type 0} (r : Result X E) → P → OnErr r P
on_err (Ok x) p = tt
on_err (Err e) p = p

-- what is promised of a call that could not read: what it read stands in the room
pub fails_reading : (mode : Mode) (room : List ℕ) {had left : Option (List ℕ)} (held : Option (List ℕ)) → length room ≡ 46001 → ConsumesFront had left room → Fails mode had left held held
fails_reading mode room held long f = inl (record { bytes = take f.count room; few = omega (arith, length-take-le f.count room f.within); lost = f.lost; kept = Keeps-refl held })

-- what is promised of a call, from what was read into the room and what was written of the output
module _ (mode : Mode) (n : ℕ) (room o : List ℕ) (had left : Option (List ℕ)) {r : Answer} (long : length room ≡ 46001) (inside : n ≤ length room)
    (lost : Consumes had left (take n room)) (end : n < length room → IsAtEnd left) (b : Bytes (take n room))
    (a : r ≡ (mode_rewrite mode (take n room) (replicate 46000 0)).answer) (w : o ≡ (mode_rewrite mode (take n room) (replicate 46000 0)).out) where
  short : length (take n room) ≤ 46001
  short = omega (arith, length-take-le n room inside)

  first : IfSome had (λ xs. take n room ≡ take 46001 xs)
  first = first_of had left (take n room) 46001 lost short (λ h. end (omega (arith, length-take-le n room inside)))

  said_reply : said r o ≡ reply mode (take n room)
  said_reply = ap₂ said a w ∙ says mode (take n room) (replicate 46000 0) b (length-replicate {A = ℕ} 46000 0) (mode_file_verdict mode (take n room)) refl

  pub replies : {held holds : Option (List ℕ)} → Appends held holds (said r o) → Replies mode had left held holds r
  replies {held} {holds} put = record { bytes = take n room; first = first; lost = lost; answered = a; written = subst (Appends held holds) said_reply put }

  pub fails_writing : {held holds : Option (List ℕ)} → AppendsFront held holds (said r o) → Fails mode had left held holds
  fails_writing {held} {holds} put =
      inr (record { bytes = take n room; each = b; few = short; first = first; lost = lost; written = subst (AppendsFront held holds) said_reply put })
