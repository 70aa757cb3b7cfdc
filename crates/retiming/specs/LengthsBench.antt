-- T-07 by computation: the adder's loop, and from port to port of the netlist with the not gate, late-started. Assumes nothing.
use Rattle.std.specs.Prelude.{refl, List, ℕ}
use Rattle.std.proofs.Common.{lit<}
use Rattle.netlist.specs.Net.{Net}
use Rattle.netlist.specs.File.{decode, decoded_net}
use Rattle.retiming.specs.Leads.{Walk, here, step}
use Rattle.retiming.specs.FileRewrite.{rewritten_file}
use Rattle.retiming.specs.LateFile.{late_file}
use Rattle.retiming.specs.Computing.{computing}
use Rattle.retiming.specs.Bench.{clock, sized, refused, adder, adder_over, turned}

unfoldable pub net_in : List ℕ → Net
net_in s = decoded_net (decode s)

-- ---- the adder

unfoldable pub old : Net
unfolding adder adder_over clock sized
old = net_in adder.file

unfoldable pub new : Net
unfolding adder adder_over clock sized
new = net_in (rewritten_file adder.file)

-- from the register to the ROM, the add, and back; from the add to the clocked ROM, and back
unfoldable pub old_loop : Walk old 0 0
unfolding computing net_in old
old_loop =
    step {x = 1} (record { operand = 0; inside = lit< tt; used = lit< tt; from = refl })
    (step {x = 2} (record { operand = 1; inside = lit< tt; used = lit< tt; from = refl })
    (step {x = 0} (record { operand = 0; inside = lit< tt; used = lit< tt; from = refl }) (here refl)))

unfoldable pub new_loop : Walk new 1 1
unfolding computing net_in new
new_loop =
    step {x = 0} (record { operand = 0; inside = lit< tt; used = lit< tt; from = refl })
    (step {x = 1} (record { operand = 1; inside = lit< tt; used = lit< tt; from = refl }) (here refl))

-- ---- input, asynchronous ROM, not, register, output, late-started

unfoldable pub drawn : Net
unfolding turned refused
drawn = net_in turned.file

unfoldable pub late : Net
unfolding turned refused
late = net_in (late_file turned.file)

unfoldable pub old_path : Walk drawn 0 4
unfolding computing net_in drawn
old_path =
    step {x = 1} (record { operand = 0; inside = lit< tt; used = lit< tt; from = refl })
    (step {x = 2} (record { operand = 0; inside = lit< tt; used = lit< tt; from = refl })
    (step {x = 3} (record { operand = 0; inside = lit< tt; used = lit< tt; from = refl })
    (step {x = 4} (record { operand = 0; inside = lit< tt; used = lit< tt; from = refl }) (here refl))))

-- over the choose gate, at 1
unfoldable pub new_path : Walk late 0 3
unfolding computing net_in late
new_path =
    step {x = 1} (record { operand = 0; inside = lit< tt; used = lit< tt; from = refl })
    (step {x = 2} (record { operand = 0; inside = lit< tt; used = lit< tt; from = refl })
    (step {x = 7} (record { operand = 1; inside = lit< tt; used = lit< tt; from = refl })
    (step {x = 3} (record { operand = 0; inside = lit< tt; used = lit< tt; from = refl }) (here refl))))
