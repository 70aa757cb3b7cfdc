-- What a writer took before it failed, over several writes.
use Rattle.std.proofs.Common.{ℕ, ◌+◌, List, ◌++◌, Option, arith, length, take, subst, sym, length-append}
use Rattle.std.proofs.lemmas.List.{take-append-le}
use Rattle.std.proofs.Math.Seq.{take-append-add}
use Rattle.std.specs.Io.KnownBytes.{Appends}
use Rattle.std.proofs.KnownBytes.{Appends-trans}
use Rattle.streams.specs.Streams.{AppendsFront}

-- a front of what comes first
pub AppendsFront-first : {a b : Option (List ℕ)} {bs : List ℕ} (cs : List ℕ) → AppendsFront a b bs → AppendsFront a b (bs ++ cs)
AppendsFront-first {a} {b} {bs} cs f = record {
  count = f.count;
  within = omega (arith, length-append bs cs, f.within);
  grown = subst (Appends a b) (sym (take-append-le f.count bs cs f.within)) f.grown;
}

-- all of what comes first, and a front of what comes next
pub AppendsFront-after : (a : Option (List ℕ)) {b c : Option (List ℕ)} (bs : List ℕ) {cs : List ℕ} → Appends a b bs → AppendsFront b c cs → AppendsFront a c (bs ++ cs)
AppendsFront-after a {b} {c} bs {cs} p f = record {
  count = length bs + f.count;
  within = omega (arith, length-append bs cs, f.within);
  grown = subst (Appends a c) (sym (take-append-add bs cs f.count)) (Appends-trans a b c bs (take f.count cs) p f.grown);
}
