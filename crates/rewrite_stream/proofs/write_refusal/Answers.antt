-- The pieces that were written, and a front of the one that failed, are a front of the line.
use Rattle.std.proofs.Common.{ℕ, List, Option, ◌++◌, codes, decimal}
use Rattle.std.proofs.KnownBytes.{Appends-trans}
use Rattle.std.proofs.lemmas.Result.{on_err_weaker}
use Rattle.streams.specs.Streams.{AppendsFront}
use Rattle.streams.proofs.Fronts.{AppendsFront-first, AppendsFront-after}
use Rattle.rewrite_stream.specs.Reply.{refusal_line}
use Rattle.rewrite_stream.proofs.Replied.{on_err}
use Rattle.rewrite_stream.proofs.write_refusal.Goals as goal

-- up to the text, the number, the space or the place
module _ (number place : ℕ) {old new : Option (List ℕ)} where
  in_place : AppendsFront old new (codes "refused " ++ decimal number ++ codes " " ++ decimal place) → AppendsFront old new (refusal_line number place)
  in_place f = AppendsFront-first (codes "\n") f

  in_space : AppendsFront old new (codes "refused " ++ decimal number ++ codes " ") → AppendsFront old new (refusal_line number place)
  in_space f = in_place (AppendsFront-first (decimal place) f)

  in_number : AppendsFront old new (codes "refused " ++ decimal number) → AppendsFront old new (refusal_line number place)
  in_number f = in_space (AppendsFront-first (codes " ") f)

  in_text : AppendsFront old new (codes "refused ") → AppendsFront old new (refusal_line number place)
  in_text f = in_number (AppendsFront-first (decimal number) f)

pub returns-in_err-write_full-clause-failed : goal.returns-in_err-write_full-clause-failed
returns-in_err-write_full-clause-failed g c = on_err _ (in_text c.args.number c.args.place c.in_err-write_full.ensures.failed)

pub returns-in_err-write_number-clause-failed : goal.returns-in_err-write_number-clause-failed
returns-in_err-write_number-clause-failed g c =
    on_err _ (in_number c.args.number c.args.place (AppendsFront-after _ (codes "refused ") c.in_ok-write_full.ensures.all c.in_err-write_number.ensures.failed))

pub returns-in_err-write_full-2-clause-failed : goal.returns-in_err-write_full-2-clause-failed
returns-in_err-write_full-2-clause-failed g c =
    let begun = Appends-trans _ _ _ (codes "refused ") (decimal c.args.number) c.in_ok-write_full.ensures.all c.in_ok-write_number.ensures.all in
    on_err _ (in_space c.args.number c.args.place (AppendsFront-after _ (codes "refused " ++ decimal c.args.number) begun c.in_err-write_full-2.ensures.failed))

pub returns-in_err-write_number-2-clause-failed : goal.returns-in_err-write_number-2-clause-failed
returns-in_err-write_number-2-clause-failed g c =
    let begun = Appends-trans _ _ _ (codes "refused ") (decimal c.args.number) c.in_ok-write_full.ensures.all c.in_ok-write_number.ensures.all in
    let spaced = Appends-trans _ _ _ (codes "refused " ++ decimal c.args.number) (codes " ") begun c.in_ok-write_full-2.ensures.all in
    on_err _ (in_place c.args.number c.args.place (AppendsFront-after _ (codes "refused " ++ decimal c.args.number ++ codes " ") spaced c.in_err-write_number-2.ensures.failed))

pub returns-clause-failed : goal.returns-clause-failed
returns-clause-failed g c =
    let begun = Appends-trans _ _ _ (codes "refused ") (decimal c.args.number) c.in_ok-write_full.ensures.all c.in_ok-write_number.ensures.all in
    let spaced = Appends-trans _ _ _ (codes "refused " ++ decimal c.args.number) (codes " ") begun c.in_ok-write_full-2.ensures.all in
    let placed = Appends-trans _ _ _ (codes "refused " ++ decimal c.args.number ++ codes " ") (decimal c.args.place) spaced c.in_ok-write_number-2.ensures.all in
    on_err_weaker _ (λ f. AppendsFront-after _ (codes "refused " ++ decimal c.args.number ++ codes " " ++ decimal c.args.place) placed f) c.write_full-3.ensures.failed
