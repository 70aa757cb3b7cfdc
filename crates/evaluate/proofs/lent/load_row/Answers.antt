use mathlib.Core.Path.{refl, sym, subst, ◌∙◌}
use Prim.Native.Nat.{ℕ, ◌^◌, ◌≤◌, ◌<◌}
use native.Mathlib.Omega.{arith}
use lib.ListN.{length-set}
use borrow.Author.Tests.{ltb-true, ltb-false}
use Rattle.netlist.specs.Net.{width_at}
use Rattle.evaluate.proofs.Rows.{loads_more, is_node, other_length, too_wide, all_fit, loaded}
use Rattle.evaluate.proofs.lent.load_row.Goals as goal

pub returns-then-bytes-members-clause-fitting : goal.returns-then-bytes-members-clause-fitting
returns-then-bytes-members-clause-fitting c = other_length c.args.row c.args.net.now.net c.requires.members _ c.if-bytes-members.true

pub width-requires : goal.width-requires
width-requires c = is_node c.args.row c.args.net.now.net c.requires.members c.loop-i-test.true refl

pub fits_width-requires : goal.fits_width-requires
fits_width-requires c = omega (arith, c.width.ensures.width, c.requires.formed.fields.width_high _ (is_node c.args.row c.args.net.now.net c.requires.members c.loop-i-test.true refl))

pub returns-then-not-fits_width-clause-fitting : goal.returns-then-not-fits_width-clause-fitting
returns-then-not-fits_width-clause-fitting c =
    let x = c.word_at-word.result in
    too_wide c.args.row c.args.net.now.net c.requires.members _ c.if-bytes-members.false c.loop-i-test.true refl c.word_at-word.ensures
    (subst (λ (k : ℕ). 2 ^ k ≤ x) c.width.ensures.width (ltb-false _ _ (sym c.fits_width.ensures ∙ c.if-not-fits_width.true)))

pub bounds-words-v : goal.bounds-words-v
bounds-words-v c = omega (arith, is_node c.args.row c.args.net.now.net c.requires.members c.loop-i-test.true refl, c.requires.words, c.loop-i.invariant.0)

pub loop-i-preserved : goal.loop-i-preserved
loop-i-preserved c =
    let N = c.args.net.now.net in
    let t = c.loop-i in
    let x = c.word_at-word.result in
    let node = is_node c.args.row N c.requires.members c.loop-i-test.true refl in
    let fits : x < 2 ^ width_at N _ = subst (λ (k : ℕ). x < 2 ^ k) c.width.ensures.width (ltb-true _ _ (sym c.fits_width.ensures ∙ c.if-not-fits_width.false)) in (
      length-set t.words _ x ∙ t.invariant.0,
      loads_more N t.invariant.1 c.loop-i-test.true refl c.word_at-word.ensures fits (omega (arith, node, c.requires.words, t.invariant.0)),
    )

pub returns-clause-fitting : goal.returns-clause-fitting
returns-clause-fitting c = all_fit c.args.row c.args.net.now.net c.requires.members _ c.if-bytes-members.false c.loop-i.invariant.1 (omega arith)

pub returns-clause-loaded : goal.returns-clause-loaded
returns-clause-loaded c = λ _. loaded c.args.row c.args.net.now.net c.requires.members _ c.if-bytes-members.false c.loop-i.invariant.1 (omega arith) c.loop-i.invariant.0
