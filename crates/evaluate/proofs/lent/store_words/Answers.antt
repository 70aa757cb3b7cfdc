use mathlib.Core.Path.{refl, sym, subst}
use mathlib.Core.List.{List}
use Prim.Native.Nat.{ℕ, ◌+◌}
use lib.ListN.{get_or}
use Rattle.evaluate.specs.Filling.{Filling, fill_put}
use Rattle.evaluate.proofs.lent.store_words.Goals as goal

pub loop-i-preserved : goal.loop-i-preserved
loop-i-preserved c =
    let a = c.args in
    let more = fill_put c.loop-i.invariant c.loop-i-test.true refl c.read_at.result c.read_at.ensures in
    subst (λ (l : List ℕ). Filling (λ u. get_or a.words.now u 0) a.members.now a.out.now l (c.loop-i.i + 1)) (sym c.put_word.ensures) more
