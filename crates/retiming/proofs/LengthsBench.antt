-- Laws of what specs/LengthsBench.antt defines. Assumes nothing.
use Rattle.std.specs.Prelude.{◌≡◌, refl, [], ◌∷◌, map, ℕ}
use Rattle.std.proofs.Common.{◌∙◌}
use Rattle.lists.specs.Lists.{below}
use Rattle.retiming.specs.declared.Mode.TheVariants.{Plain, Late}
use Rattle.retiming.specs.Leads.{Walk}
use Rattle.retiming.specs.FileRewrite.{rewritten_file}
use Rattle.retiming.specs.Lengths.{latency, pin, pins, itself, comes_from_by, comes_from}
use Rattle.retiming.specs.Computing.{computing}
use Rattle.retiming.proofs.LoopLengths.{loops_keep_their_length}
use Rattle.retiming.specs.Bench.{clock, sized, adder, adder_over}
use Rattle.retiming.proofs.Bench.{byte_list}
use Rattle.retiming.specs.LengthsBench.{net_in, old, new, old_loop, new_loop, drawn, late, old_path, new_path}

-- its new nodes come from the ROM, the add and the output port; two are registers
adder_comes_from : map (comes_from Plain old) (below 5) ≡ (1 ∷ []) ∷ (2 ∷ []) ∷ (3 ∷ []) ∷ [] ∷ [] ∷ []
unfolding computing net_in old comes_from_by
adder_comes_from = refl

-- both through operand 0 of the ROM and operand 1 of the add: one register before is one clocked ROM after
adder_loop : (pins (itself old) old_loop ≡ pin 0 1 ∷ pin 1 2 ∷ [])
    × (pins (comes_from Plain old) new_loop ≡ pin 0 1 ∷ pin 1 2 ∷ [])
    × (latency old_loop ≡ 1)
    × (latency new_loop ≡ 1)
unfolding computing net_in old new old_loop new_loop comes_from_by itself pins latency
adder_loop = (refl, refl, refl, refl)

-- and whatever closed walk of the new file goes through these operands
adder_kept : (i : ℕ) (z : Walk new i i) → pins (comes_from Plain old) z ≡ pins (itself old) old_loop → latency z ≡ 1
unfolding computing net_in old new adder adder_over clock sized
adder_kept i z e =
    let kept = (loops_keep_their_length Plain adder.file (rewritten_file adder.file) (byte_list adder.file refl) refl refl old new refl refl).loops 0 old_loop tt in
    kept.as_long i z e ∙ adder_loop.2

-- four nodes, and of the late start the constant 1, the chain's register, the constant shown and the choose gate
late_comes_from : map (comes_from Late drawn) (below 8) ≡ (0 ∷ []) ∷ (1 ∷ []) ∷ (2 ∷ []) ∷ (4 ∷ []) ∷ [] ∷ [] ∷ [] ∷ [] ∷ []
unfolding computing net_in drawn comes_from_by
late_comes_from = refl

-- the register before, which stood behind the not gate, is the clocked ROM after
late_path : (pins (itself drawn) old_path ≡ pin 0 1 ∷ pin 0 2 ∷ pin 0 4 ∷ [])
    × (pins (comes_from Late drawn) new_path ≡ pin 0 1 ∷ pin 0 2 ∷ pin 0 4 ∷ [])
    × (latency old_path ≡ 1)
    × (latency new_path ≡ 1)
unfolding computing net_in drawn late old_path new_path comes_from_by itself pins latency
late_path = (refl, refl, refl, refl)
