-- The kind is the number, and at each number `kind_read` computes.
use Rattle.netlist.specs.declared.Element.{Element}
use Rattle.std.specs.Prelude.{Option}
use mathlib.Core.Path.{refl, sym, ap, subst, ◌∙◌}
use Prim.Native.Nat.{ℕ}
use lib.ListN.{get_or}
use native.Mathlib.Omega.{arith}
use Rattle.lists.specs.Paths.{pick}
use Rattle.lists.proofs.Paths.{off_eq}
use Rattle.words.specs.Words.{word}
use Rattle.netlist.specs.Net.{rom}
use Rattle.netlist.specs.NodeField.{kind_read, node_with}
use Rattle.netlist.specs.declared.Element.TheVariants.{Input, Output, Register, Async, Clocked}
use Rattle.nodes.specs.Kind.{Decodes, kind_number}
use Rattle.nodes.specs.Good.{found}
use Rattle.nodes.proofs.good.kind_good.Goals as goal

pub returns-in-Ok-Input : goal.returns-in-Ok-Input
unfolding kind_read pick
returns-in-Ok-Input c =
    let s = c.args.s.now in
    found s Input _ ∙ ap (λ (k : ℕ). (node_with s (kind_read k s)).good) (ap kind_number (sym c.in-Ok-Input.field-0-is) ∙ subst (Decodes (get_or s 0 0)) c.in-Ok-Input.is c.try_from.ensures)

pub returns-in-Ok-Output : goal.returns-in-Ok-Output
unfolding kind_read pick
returns-in-Ok-Output c =
    let s = c.args.s.now in
    found s Output _ ∙ ap (λ (k : ℕ). (node_with s (kind_read k s)).good) (ap kind_number (sym c.in-Ok-Output.field-0-is) ∙ subst (Decodes (get_or s 0 0)) c.in-Ok-Output.is c.try_from.ensures)

pub returns-in-Ok-Register : goal.returns-in-Ok-Register
unfolding kind_read pick
returns-in-Ok-Register c =
    let s = c.args.s.now in
    c.reset_good.ensures (Register (word s 4)) ∙ ap (λ (k : ℕ). (node_with s (kind_read k s)).good) (ap kind_number (sym c.in-Ok-Register.field-0-is) ∙ subst (Decodes (get_or s 0 0)) c.in-Ok-Register.is c.try_from.ensures)

pub returns-in-Ok-Async : goal.returns-in-Ok-Async
unfolding kind_read pick
returns-in-Ok-Async c =
    let s = c.args.s.now in
    found s (Async (rom (get_or s 4 0))) _ ∙ ap (λ (k : ℕ). (node_with s (kind_read k s)).good) (ap kind_number (sym c.in-Ok-Async.field-0-is) ∙ subst (Decodes (get_or s 0 0)) c.in-Ok-Async.is c.try_from.ensures)

pub returns-in-Ok-Clocked : goal.returns-in-Ok-Clocked
unfolding kind_read pick
returns-in-Ok-Clocked c =
    let s = c.args.s.now in
    c.reset_good-in-Ok-Clocked.ensures (Clocked (rom (get_or s 4 0)) (word s 5)) ∙ ap (λ (k : ℕ). (node_with s (kind_read k s)).good) (ap kind_number (sym c.in-Ok-Clocked.field-0-is) ∙ subst (Decodes (get_or s 0 0)) c.in-Ok-Clocked.is c.try_from.ensures)

pub returns-in-Ok-Gate : goal.returns-in-Ok-Gate
unfolding kind_read pick
returns-in-Ok-Gate c =
    let s = c.args.s.now in
    c.op_good.ensures ∙ ap (λ (k : ℕ). (node_with s (kind_read k s)).good) (ap kind_number (sym c.in-Ok-Gate.field-0-is) ∙ subst (Decodes (get_or s 0 0)) c.in-Ok-Gate.is c.try_from.ensures)

pub returns-in-Err : goal.returns-in-Err
unfolding kind_read
returns-in-Err c =
    let s = c.args.s.now in
    let past = subst (Decodes (get_or s 0 0)) c.in-Err.is c.try_from.ensures in
    ap (λ (r : Option Element). (node_with s r).good)
    (off_eq _ _ _ _ (λ h. omega (arith, past)) (off_eq _ _ _ _ (λ h. omega (arith, past)) (off_eq _ _ _ _ (λ h. omega (arith, past)) (off_eq _ _ _ _ (λ h. omega (arith, past)) (off_eq _ _ _ _ (λ h. omega (arith, past)) (off_eq _ _ _ _ (λ h. omega (arith, past)) refl))))))
