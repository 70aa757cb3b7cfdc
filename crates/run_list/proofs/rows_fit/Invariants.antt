-- The loop's invariant: the rows passed fit.
use mathlib.Core.Path.{◌≡◌}
use mathlib.Core.Bool.{true}
use Prim.Native.Nat.{ℕ, ◌*◌, ◌<◌}
use lib.ListN.{length}
use Rattle.behaviour.specs.Service.{fitting_bytes}
use Rattle.behaviour.specs.RunList.{row_bytes, byte_row}
use Rattle.evaluate.specs.Rows.{row_widths}
use Rattle.evaluate.specs.declared.Row.TheVariants.{Inputs}
use Rattle.run_list.proofs.rows_fit.Given as goal

abbrev pub invariant-loop-i : goal.invariant-loop-i
invariant-loop-i l = (l.at ≡ row_bytes (row_widths Inputs l.net.net) * l._i) × (length l.words ≡ length l.initial.words)
    × ((j : ℕ) → j < l._i → fitting_bytes (row_widths Inputs l.net.net) (byte_row (row_bytes (row_widths Inputs l.net.net)) l.inputs j) ≡ true)
