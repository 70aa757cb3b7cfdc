-- Of a netlist without rings of registers: what stands on a wire from u, step by step; and every register is counted at one source. Assumes nothing.
use Rattle.std.specs.Prelude.{◌≡◌, ℕ}
use Rattle.std.proofs.Math.Bool.{true}
use Rattle.netlist.specs.Net.{Net, element_at, source, is_register}

-- a register that reads u, or one that reads such a register: how a reader finds them in the file
pub data FromSource (M : Net) (u : ℕ) : ℕ → Type 0 where
  reads_it : {s : ℕ} → is_register (element_at M s) ≡ true → source M s 0 ≡ u → FromSource M u s
  reads_next : {s : ℕ} → is_register (element_at M s) ≡ true → FromSource M u (source M s 0) → FromSource M u s
