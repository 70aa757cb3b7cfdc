-- The rewritten netlist's registers stand behind all other nodes, wire by wire, from source to reader. Assumes nothing.
use Rattle.std.specs.Prelude.{◌≡◌, ◌⊎◌, length}
use Rattle.std.proofs.Math.Bool.{true, false}
use Prim.Native.Nat.{ℕ, ◌+◌, ◌≤◌, ◌<◌}
use Rattle.netlist.specs.Net.{Net, size, element_at, source, is_register}
use Rattle.retiming.specs.Rewrite.{Timing, root, entry_places}
use Rattle.retiming.specs.Candidate.{Retimes}

-- what register v reads, behind the first k nodes: one of these, and there its wire begins; or the register before it, and their wires begin at the same node
abbrev pub Behind : Net → ℕ → ℕ → Type 0
Behind M k v = ((source M v 0 < k) × (root M v ≡ source M v 0)) ⊎ ((k ≤ source M v 0) × (source M v 0 + 1 ≡ v) × (root M v ≡ root M (source M v 0)))

-- the first k nodes are no registers, and all others are, wire by wire
pub record RegistersLast (M : Net) (k : ℕ) : Type 0 where
  pub inside : k ≤ size M
  pub others : (v : ℕ) → v < k → is_register (element_at M v) ≡ false
  pub registers : (v : ℕ) → k ≤ v → v < size M → is_register (element_at M v) ≡ true
  pub behind : (v : ℕ) → k ≤ v → v < size M → Behind M k v

-- ---- the rewritten netlist

module _ (N : Net) (f : Timing) (Z : ℕ → ℕ → ℕ) (ok : Retimes N f) where
  abbrev pub firsts : ℕ
  firsts = length (entry_places N f Z)
