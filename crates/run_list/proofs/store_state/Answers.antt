use mathlib.Core.Path.{◌≡◌, refl, sym, ap, subst, ◌∙◌}
use mathlib.Core.List.{List}
use Prim.Native.Nat.{ℕ, ◌+◌, ◌*◌, ◌<◌}
use native.Mathlib.Nat.{zero-add}
use native.Mathlib.Omega.{arith}
use lib.ListN.{length, get_or}
use Rattle.lists.specs.Lists.{below}
use Rattle.lists.proofs.BelowLaws.{length-below, get_or_up_from}
use Rattle.behaviour.specs.Service.{bytes_of}
use Rattle.evaluate.specs.Filling.{Filling, fill_none, fill_put, fill_all}
use Rattle.lists.proofs.Sections.{section_listed}
use Rattle.run_list.proofs.store_state.Goals as goal

pub loop-j-init : goal.loop-j-init
loop-j-init c = let p = c.requires in fill_none (p.room ∙ ap (2 *◌) (sym (length-below c.args.sizes.held)))

pub loop-j-preserved : goal.loop-j-preserved
loop-j-preserved c =
    let a = c.args in
    let t = c.loop-j in
    let n : length (below a.sizes.held) ≡ a.sizes.held = length-below a.sizes.held in
    let m : t.j < length (below a.sizes.held) = omega (arith, c.loop-j-test.true) in
    let e = fill_put t.invariant m (sym (get_or_up_from 0 a.sizes.held t.j 0 c.loop-j-test.true ∙ zero-add t.j)) (get_or a.words.now (a.sizes.inputs + t.j) 0) refl in
    subst (λ (l : List ℕ). Filling (λ k. get_or a.words.now (a.sizes.inputs + k) 0) (below a.sizes.held) a.state.now l (t.j + 1)) (sym c.put_word.ensures) e

pub returns : goal.returns
returns c =
    let a = c.args in
    let t = c.loop-j in
    let n : length (below a.sizes.held) ≡ a.sizes.held = length-below a.sizes.held in
    fill_all t.invariant (omega (arith, t.invariant.low)) ∙ ap (λ (l : List ℕ). bytes_of l) (section_listed a.sizes.inputs a.sizes.held a.words.now c.requires.words)
