-- By the code.
use mathlib.Core.Path.{refl, ap}
use native.Mathlib.Omega.{arith}
use Rattle.lists.specs.Paths.{pick}
use Rattle.words.specs.declared.Op.TheVariants.{Constant, Part}
use Rattle.circuit.specs.Code.{op_by}
use Rattle.stepping.specs.StepLaws.{line_asks, line_gives, choose_gives, part_narrow, last_code}
use Rattle.stepping.proofs.Plain.{plain_by}
use Rattle.stepping.proofs.line_word.Goals as goal

pub gate_word-requires-clause-asks : goal.gate_word-requires-clause-asks
unfolding op_by pick
gate_word-requires-clause-asks c = let p = c.requires in (line_asks p.formed p.line 8 (Constant _) p.code c.in-8.is (omega arith) (ap Constant c.part_of-value.ensures.part)).3

pub returns-in-8 : goal.returns-in-8
unfolding op_by pick
returns-in-8 c = let p = c.requires in line_gives p.formed p.line 8 (Constant _) p.code c.in-8.is (omega arith) (ap Constant c.part_of-value.ensures.part) c.gate_word.ensures

pub returns-in-17 : goal.returns-in-17
returns-in-17 c = let p = c.requires in choose_gives p.formed p.line p.code c.in-17.is c.choose_word.ensures

pub overflow_cast-low : goal.overflow_cast-low
overflow_cast-low c = let p = c.requires in omega (arith, c.part_of-low.ensures.part, part_narrow p.formed p.line p.code c.in-18.is)

pub gate_word-requires-in-18-clause-asks : goal.gate_word-requires-in-18-clause-asks
unfolding op_by pick
gate_word-requires-in-18-clause-asks c = let p = c.requires in (line_asks p.formed p.line 18 (Part _) p.code c.in-18.is (omega arith) (ap Part c.part_of-low.ensures.part)).3

pub returns-in-18 : goal.returns-in-18
unfolding op_by pick
returns-in-18 c = let p = c.requires in line_gives p.formed p.line 18 (Part _) p.code c.in-18.is (omega arith) (ap Part c.part_of-low.ensures.part) c.gate_word-in-18.ensures

pub gate_word-requires-in_default-clause-asks : goal.gate_word-requires-in_default-clause-asks
gate_word-requires-in_default-clause-asks c =
    let p = c.requires in
    let high = last_code p.line.inner p.code (λ h. omega arith) in
    (line_asks p.formed p.line _ c.plain_op-op.result p.code refl high.0 (plain_by _ high.0 (λ h. omega arith) (λ h. omega arith) c.plain_op-op.ensures)).3

pub returns-in_default : goal.returns-in_default
returns-in_default c =
    let p = c.requires in
    let high = last_code p.line.inner p.code (λ h. omega arith) in
    line_gives p.formed p.line _ c.plain_op-op.result p.code refl high.0 (plain_by _ high.0 (λ h. omega arith) (λ h. omega arith) c.plain_op-op.ensures) c.gate_word-in_default.ensures
