use mathlib.Core.Path.{sym, ap, subst, ◌∙◌}
use mathlib.Core.List.{List}
use Prim.Native.Nat.{ℕ, ◌+◌, ◌<◌}
use native.Mathlib.Omega.{arith}
use lib.ListN.{set}
use Rattle.netlist.specs.Net.{size, element_at}
use Rattle.evaluate.specs.Clock.{loaded, node_word, OperandsFit}
use Rattle.evaluate.specs.Settling.{Settling, settle_none, settle_fits, settle_own, settle_more, settle_all}
use Rattle.evaluate.proofs.evaluate_all.Goals as goal
use Rattle.evaluate.proofs.evaluate_all.Goals.{then-not-is_loaded, else-not-is_loaded}

pub loop-i-init : goal.loop-i-init
loop-i-init c = settle_none _ c.requires.formed _ _

pub node_word-requires-clause-fits : goal.node_word-requires-clause-fits
node_word-requires-clause-fits c =
    subst (OperandsFit c.args.net.net c.loop-i.words) (sym c.turn-v.ensures.turn)
    (settle_fits c.requires.formed c.requires.complete c.loop-i.invariant (omega (arith, c.node_count-i-end.ensures.count)) c.requires.inputs c.requires.state)

pub loop-i-preserved : goal.loop-i-preserved
loop-i-preserved c =
    let p = c.requires in
    let N = c.args.net.net in
    let S : List ℕ → Type 0 = λ x. Settling N c.args.net.order c.args.words.now x (c.loop-i.i + 1) in
    let l : c.loop-i.i < size N = omega (arith, c.node_count-i-end.ensures.count) in
    let e = c.turn-v.ensures.turn in
    let told = sym (c.is_loaded.ensures ∙ ap (λ (u : ℕ). loaded (element_at N u)) e) in
    elim c.if-not-is_loaded.branch [
      | then-not-is_loaded w ↦
          subst S (sym (w.words-is ∙ ap (λ (u : ℕ). set c.loop-i.words u w.node_word.result) e))
          (settle_more p.formed p.complete c.loop-i.invariant l w.node_word.result (w.node_word.ensures ∙ ap (node_word N c.loop-i.words) e) p.words (told ∙ w.if-not-is_loaded.true))
      | else-not-is_loaded w ↦ subst S (sym w.words-is) (settle_own p.formed p.complete c.loop-i.invariant l (told ∙ w.if-not-is_loaded.false))
    ]

pub returns : goal.returns
returns c = settle_all c.requires.formed c.requires.complete c.loop-i.invariant (omega (arith, c.node_count-i-end.ensures.count))
