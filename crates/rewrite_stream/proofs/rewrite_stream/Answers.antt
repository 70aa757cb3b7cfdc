-- What was read is a part of the file's room; what is written is within the output's.
use Rattle.std.proofs.Common.{ℕ, arith, sym, length-take-le}
use Rattle.std.proofs.lemmas.List.{length-replicate}
use Rattle.rewrite_stream.specs.Read.{answers}
use Rattle.rewrite_stream.proofs.Replied.{accepted_within, replies, on_err, fails_reading, fails_writing}
use Rattle.rewrite_stream.proofs.rewrite_stream.Goals as goal

pub slice_bounds-out-end : goal.slice_bounds-out-end
slice_bounds-out-end g c =
    let a = c.in-Accepted.ensures in
    omega (arith, accepted_within c.args.mode _ _ a.bytes (length-replicate {A = ℕ} 46000 0) a.answer, c.rewrite_bytes-answer.auto.out)

pub slice_bounds-write_full-end : goal.slice_bounds-write_full-end
slice_bounds-write_full-end g c =
    let a = c.in-Accepted.ensures in
    sym (length-take-le _ _ (omega (arith, accepted_within c.args.mode _ _ a.bytes (length-replicate {A = ℕ} 46000 0) a.answer, c.rewrite_bytes-answer.auto.out)))

pub returns-in_ok-write_full-in-Accepted-clause-answers : goal.returns-in_ok-write_full-in-Accepted-clause-answers
returns-in_ok-write_full-in-Accepted-clause-answers g c =
    let a = c.in-Accepted.ensures in answers c.args.mode c.in_ok-n.n c.read_full.new.room a.bytes (omega (arith, c.read_full.auto.room)) a.answer

pub returns-in_ok-write_full-in-Accepted-clause-replies : goal.returns-in_ok-write_full-in-Accepted-clause-replies
returns-in_ok-write_full-in-Accepted-clause-replies g c =
    let a = c.in-Accepted.ensures in
    let n = c.in_ok-n.ensures in
    replies c.args.mode c.in_ok-n.n c.read_full.new.room c.rewrite_bytes-answer.new.out _ _ (omega (arith, c.read_full.auto.room)) n.within n.bytes n.end a.bytes a.answer a.written c.in_ok-write_full-in-Accepted.ensures.all

pub returns-in_ok-write_refusal-in-Refused-clause-answers : goal.returns-in_ok-write_refusal-in-Refused-clause-answers
returns-in_ok-write_refusal-in-Refused-clause-answers g c =
    let a = c.in-Refused.ensures in answers c.args.mode c.in_ok-n.n c.read_full.new.room a.bytes (omega (arith, c.read_full.auto.room)) a.answer

pub returns-in_ok-write_refusal-in-Refused-clause-replies : goal.returns-in_ok-write_refusal-in-Refused-clause-replies
returns-in_ok-write_refusal-in-Refused-clause-replies g c =
    let a = c.in-Refused.ensures in
    let n = c.in_ok-n.ensures in
    replies c.args.mode c.in_ok-n.n c.read_full.new.room c.rewrite_bytes-answer.new.out _ _ (omega (arith, c.read_full.auto.room)) n.within n.bytes n.end a.bytes a.answer a.written c.in_ok-write_refusal-in-Refused.ensures.all

pub returns-in_err-n-clause-failed : goal.returns-in_err-n-clause-failed
returns-in_err-n-clause-failed g c = on_err _ (fails_reading c.args.mode c.read_full.new.room _ (omega (arith, c.read_full.auto.room)) c.in_err-n.ensures.failed)

pub returns-in_err-write_full-in-Accepted-clause-failed : goal.returns-in_err-write_full-in-Accepted-clause-failed
returns-in_err-write_full-in-Accepted-clause-failed g c =
    let a = c.in-Accepted.ensures in
    let n = c.in_ok-n.ensures in
    on_err _ (fails_writing c.args.mode c.in_ok-n.n c.read_full.new.room c.rewrite_bytes-answer.new.out _ _ (omega (arith, c.read_full.auto.room)) n.within n.bytes n.end a.bytes a.answer a.written c.in_err-write_full-in-Accepted.ensures.failed)

pub returns-in_err-write_refusal-in-Refused-clause-failed : goal.returns-in_err-write_refusal-in-Refused-clause-failed
returns-in_err-write_refusal-in-Refused-clause-failed g c =
    let a = c.in-Refused.ensures in
    let n = c.in_ok-n.ensures in
    on_err _ (fails_writing c.args.mode c.in_ok-n.n c.read_full.new.room c.rewrite_bytes-answer.new.out _ _ (omega (arith, c.read_full.auto.room)) n.within n.bytes n.end a.bytes a.answer a.written c.in_err-write_refusal-in-Refused.ensures.failed)
