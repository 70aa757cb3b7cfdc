-- By the node's code. What is read of the node and for it is gathered before.
use Rattle.std.proofs.Common.{◌≡◌, refl, sym, ◌∙◌, lit<, arith}
use Rattle.std.proofs.Math.Path.{ap}
use Rattle.netlist.specs.Net.{element_at}
use Rattle.netlist.specs.declared.Element.TheVariants.{Gate}
use Rattle.evaluate.specs.Coded.{constant_told, part_told, plain_told}
use Rattle.evaluate.proofs.ByCode.{rom_code, Gathered, node_output, node_async, node_gate, gate_asks}
use Rattle.evaluate.proofs.node_word.Goals as goal
use Rattle.evaluate.proofs.node_word.Goals.{in-8, in-18, in_default}

pub returns-then-code-eq-OUTPUT : goal.returns-then-code-eq-OUTPUT
returns-then-code-eq-OUTPUT c =
    let g : Gathered _ _ _ _ _ _ _ = record { width = refl; below = c.width-below.ensures.width; first = c.source-one.ensures.source; second = c.source-two.ensures.source; third = c.source-three.ensures.source } in
    node_output g c.args.words.now (sym c.code-code.ensures.code ∙ c.if-code-eq-OUTPUT.true)

pub returns-else-code-eq-OUTPUT : goal.returns-else-code-eq-OUTPUT
returns-else-code-eq-OUTPUT c =
    let g : Gathered _ _ _ _ _ _ _ = record { width = refl; below = c.width-below.ensures.width; first = c.source-one.ensures.source; second = c.source-two.ensures.source; third = c.source-three.ensures.source } in
    let rom = rom_code (element_at c.args.net.now.net c.args.v) c.code-code.ensures.code c.requires.not_loaded c.if-code-eq-OUTPUT.false c.if-code-lt-GATE.true in
    node_async g c.args.words.now (sym c.code-code.ensures.code ∙ rom) c.memory_word.ensures

-- a gate, whose operation is told by the code
pub gate-requires-clause-fits : goal.gate-requires-clause-fits
gate-requires-clause-fits c =
    let g : Gathered _ _ _ _ _ _ _ = record { width = c.width-width.ensures.width; below = c.width-below.ensures.width; first = c.source-one.ensures.source; second = c.source-two.ensures.source; third = c.source-three.ensures.source } in
    let told : Gate c.match-code.op ≡ element_at c.args.net.now.net c.args.v = elim c.match-code.branch [
      | in-8 w ↦ ap Gate w.op-is ∙ constant_told _ c.code-code.ensures.code c.number-number.ensures.number w.in-8.is
      | in-18 w ↦ ap Gate w.op-is ∙ part_told _ c.code-code.ensures.code c.number-number.ensures.number w.in-18.is
      | in_default w ↦ plain_told _ c.code-code.ensures.code c.number-number.ensures.number c.if-code-lt-GATE.false (λ (h : c.code-code.result ≡ 8). omega arith) (λ (h : c.code-code.result ≡ 18). omega arith) (w.op-is ∙ w.plain_op-op.ensures)
    ] in
    (gate_asks g c.args.words.now told c.requires.formed c.requires.node (omega (arith, c.requires.inside _ 1 c.requires.node (lit< tt), c.source-two.ensures.source)) c.requires.fits).2

pub returns : goal.returns
returns c =
    let g : Gathered _ _ _ _ _ _ _ = record { width = c.width-width.ensures.width; below = c.width-below.ensures.width; first = c.source-one.ensures.source; second = c.source-two.ensures.source; third = c.source-three.ensures.source } in
    let told : Gate c.match-code.op ≡ element_at c.args.net.now.net c.args.v = elim c.match-code.branch [
      | in-8 w ↦ ap Gate w.op-is ∙ constant_told _ c.code-code.ensures.code c.number-number.ensures.number w.in-8.is
      | in-18 w ↦ ap Gate w.op-is ∙ part_told _ c.code-code.ensures.code c.number-number.ensures.number w.in-18.is
      | in_default w ↦ plain_told _ c.code-code.ensures.code c.number-number.ensures.number c.if-code-lt-GATE.false (λ (h : c.code-code.result ≡ 8). omega arith) (λ (h : c.code-code.result ≡ 18). omega arith) (w.op-is ∙ w.plain_op-op.ensures)
    ] in
    node_gate g c.args.words.now told c.gate.ensures
