-- The tests of `op_read`, one law for each.
use Rattle.words.specs.declared.Op.{Op}
use Rattle.std.specs.Prelude.{Option}
use mathlib.Core.Path.{◌≡◌, refl, sym, ap, ◌∙◌}
use mathlib.Core.Bool.{true}
use Prim.Native.Nat.{ℕ}
use native.Mathlib.Omega.{arith}
use lib.ListN.{length, get_or}
use Rattle.lists.specs.Paths.{pick}
use Rattle.lists.proofs.Paths.{on_lt, off_lt, on_eq, off_eq, arms}
use Rattle.words.specs.Words.{fits, word}
use Rattle.words.specs.declared.Op.TheVariants.{Constant}
use Rattle.netlist.specs.NodeField.{gate_length, op_read, gate_read, node_with}
use Rattle.nodes.specs.Good.{found_op}
use Rattle.nodes.proofs.good.op_good.Goals as goal

pub returns-then-s-lt3 : goal.returns-then-s-lt3
unfolding op_read
returns-then-s-lt3 c =
    let s = c.args.s.now in
    ap (λ (o : Option Op). (node_with s (gate_read o)).good) (on_lt _ _ _ _ c.if-s-lt3.true refl)

pub returns-then-op-gt11 : goal.returns-then-op-gt11
unfolding op_read
returns-then-op-gt11 c =
    let s = c.args.s.now in
    ap (λ (o : Option Op). (node_with s (gate_read o)).good) (off_lt _ _ _ _ c.if-s-lt3.false (on_lt _ _ _ _ c.if-op-gt11.true refl))

pub returns-then-s-gate_length : goal.returns-then-s-gate_length
unfolding op_read
returns-then-s-gate_length c =
    let s = c.args.s.now in
    ap (λ (o : Option Op). (node_with s (gate_read o)).good)
    (off_lt _ _ _ _ c.if-s-lt3.false (off_lt _ _ _ _ c.if-op-gt11.false
    (off_eq _ _ _ _ (λ e. c.if-s-gate_length.true (e ∙ sym c.gate_length.ensures)) refl)))

pub word_at-requires : goal.word_at-requires
unfolding pick
word_at-requires c =
    let s = c.args.s.now in
    let full : length s ≡ 5 = c.if-s-gate_length.false ∙ c.gate_length.ensures ∙ ap gate_length c.if-op-eq-CONSTANT.true in
    omega (arith, full)

pub returns-then-op-eq-CONSTANT : goal.returns-then-op-eq-CONSTANT
unfolding op_read
returns-then-op-eq-CONSTANT c =
    let s = c.args.s.now in
    c.fits_width.ensures ∙ ap (λ (v : ℕ). fits v (get_or s 1 0)) c.word_at.ensures ∙ found_op s (Constant (word s 3)) _
    ∙ ap (λ (o : Option Op). (node_with s (gate_read o)).good)
    (off_lt _ _ _ _ c.if-s-lt3.false (off_lt _ _ _ _ c.if-op-gt11.false
    (on_eq _ _ _ _ (c.if-s-gate_length.false ∙ c.gate_length.ensures)
    (on_eq _ _ _ _ c.if-op-eq-CONSTANT.true refl))))

pub returns-else-op-eq-CONSTANT : goal.returns-else-op-eq-CONSTANT
unfolding op_read
returns-else-op-eq-CONSTANT c =
    let s = c.args.s.now in
    arms (λ (o : Option Op). true ≡ (node_with s (gate_read o)).good) _ _ _ (λ _. refl) (λ _. refl)
    ∙ ap (λ (o : Option Op). (node_with s (gate_read o)).good)
    (off_lt _ _ _ _ c.if-s-lt3.false (off_lt _ _ _ _ c.if-op-gt11.false
    (on_eq _ _ _ _ (c.if-s-gate_length.false ∙ c.gate_length.ensures)
    (off_eq _ _ _ _ c.if-op-eq-CONSTANT.false refl))))
