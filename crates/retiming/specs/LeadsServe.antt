-- "Leads are the least that serve: any whole numbers from 0 up, 0 at ports, that leave no wire a negative register count and every ROM at least one register behind
-- it, are nowhere smaller." The leads themselves serve, where 11 and 12 do not apply, and no numbers that serve are smaller anywhere. Assumes nothing.
use Rattle.std.specs.Prelude.{◌≡◌, true, ℕ, ◌<◌}
use Rattle.netlist.specs.Net.{Net, size, element_at, is_input, is_output}
use Rattle.retiming.specs.Least.{ServesWires}

pub record ServesNet (N : Net) (g : ℕ → ℕ) : Type 0 where
  pub inputs : (v : ℕ) → v < size N → is_input (element_at N v) ≡ true → g v ≡ 0
  pub outputs : (v : ℕ) → v < size N → is_output (element_at N v) ≡ true → g v ≡ 0
  pub wires : ServesWires N g
