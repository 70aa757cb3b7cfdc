-- Tables that answer alike: written otherwise, they have the same address bits, the same width and the same word at every address (T-02, T-10).
-- The reader says the same of netlists that differ only so. Assumes nothing.
use Rattle.std.specs.Prelude.{◌≡◌, List, map, length, get_or}
use Prim.Native.Nat.{ℕ}
use Rattle.netlist.specs.Net.{Words, Table, no_table, spelled, Net}

pub record AnswerAlike (t u : Table) : Type 0 where
  pub bits : t.bits ≡ u.bits
  pub wide : t.wide ≡ u.wide
  pub words : spelled t ≡ spelled u

-- tables number for number
pub record TablesAlike (ts us : List Table) : Type 0 where
  pub count : length ts ≡ length us
  pub each : (k : ℕ) → AnswerAlike (get_or ts k no_table) (get_or us k no_table)

-- the same nodes over tables that answer alike
pub record Respelled (N M : Net) : Type 0 where
  pub nodes : N.nodes ≡ M.nodes
  pub tables : TablesAlike N.tables M.tables

-- so the second is the first over other tables
abbrev pub over : List Table → Net → Net
over us N = record { tables = us; nodes = N.nodes }

-- ---- the table, and the netlist, with every table spelled out

abbrev pub spelled_table : Table → Table
spelled_table t = record { bits = t.bits; wide = t.wide; body = Words (spelled t) }

abbrev pub spelled_net : Net → Net
spelled_net N = over (map spelled_table N.tables) N
