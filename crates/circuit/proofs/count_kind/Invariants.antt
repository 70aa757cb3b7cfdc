use mathlib.Core.Path.{◌≡◌}
use Prim.Native.Nat.{◌≤◌}
use lib.Dec.{eqb}
use Rattle.lists.specs.Lists.{count_below}
use Rattle.netlist.specs.Net.{element_at}
use Rattle.circuit.specs.Code.{code_of}
use Rattle.circuit.specs.Circuit.{net_of}
use Rattle.circuit.proofs.count_kind.Given as goal

abbrev pub invariant-loop-v : goal.invariant-loop-v
invariant-loop-v l = (l.count ≡ count_below (λ u. eqb (code_of (element_at (net_of l.file l.net) u)) l.kind) l.v) × (l.count ≤ l.v)
