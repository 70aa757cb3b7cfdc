-- The test of the largest word stands for those of all words.
use mathlib.Core.Path.{ap, ◌∙◌}
use Prim.Native.Nat.{ℕ, ◌*◌, ◌/◌}
use native.Mathlib.Omega.{arith}
use lib.ListN.{length}
use Rattle.words.specs.Words.{fits, word}
use Rattle.reader.proofs.Largest.{largest-fits, all_fit_16}
use Rattle.reader.proofs.tables.words_fit.Goals as goal

pub returns-then-width-eq16 : goal.returns-then-width-eq16
returns-then-width-eq16 c =
    let a = c.args in
    all_fit_16 a.words.now (length a.words.now / 2) a.width c.if-width-eq16.true (λ k. omega (arith, c.type_inv.words k))

pub returns : goal.returns
returns c =
    let a = c.args in
    c.fits_width.ensures ∙ ap (λ (v : ℕ). fits v a.width) c.largest_word.ensures ∙ largest-fits a.width (λ i. word a.words.now (2 * i)) (length a.words.now / 2)
