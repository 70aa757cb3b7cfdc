-- What is written next comes behind what was written before.
use Rattle.std.proofs.Common.{◌-◌, ◌++◌, length, take, drop, ap, ◌∙◌, sym, subst, arith, length-take}
use lib.Seq.{take-add, take-take}
use Rattle.std.specs.Io.KnownBytes.{Appends}
use Rattle.std.proofs.KnownBytes.{Appends-trans}
use Rattle.streams.proofs.write_full.Goals as goal

pub loop-n-preserved : goal.loop-n-preserved
loop-n-preserved g c =
    let n = c.loop-n.n in
    let more = c.in_ok-taken.taken in
    let bytes = c.args.bytes.now in
    let rest = length bytes - n in
    let most = length-take rest (drop n bytes) in
    let joined = ap (λ l. take n bytes ++ l) (take-take more rest (drop n bytes) (omega (arith, c.in_ok-taken.ensures.bound))) ∙ sym (take-add n more bytes) in
    record {
      inside = omega (arith, c.in_ok-taken.ensures.bound);
      grown = subst (Appends _ _) joined (Appends-trans _ _ _ _ _ c.loop-n.invariant.grown c.in_ok-taken.ensures.bytes);
    }
