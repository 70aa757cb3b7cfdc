-- "The largest lead": the largest excess of a walk, from wherever it goes. Assumes nothing.
use Rattle.std.specs.Prelude.{◌≡◌, ◌⊎◌, false}
use Prim.Native.Nat.{ℕ, ◌+◌, ◌≤◌, ◌<◌}
use Rattle.netlist.specs.Net.{Net, size, element_at, is_register}
use Rattle.retiming.specs.Leads.{Walk, leaves, enters}

-- no walk has an excess above m; and m is 0, or the excess of a walk from a node that is no register
pub record LargestOfAll (N : Net) (m : ℕ) : Type 0 where
  pub bounds : (u v : ℕ) (w : Walk N u v) → leaves w ≤ enters w + m
  pub reached : (m ≡ 0) ⊎ ((u : ℕ) × (u < size N) × (is_register (element_at N u) ≡ false) × (v : ℕ) × (w : Walk N u v) × (leaves w ≡ enters w + m))
