-- Registers by source and by reader: document 02, T-03. Each list has a number for "each node of the rewritten file that is no register", in node order. Assumes nothing.
use Rattle.std.specs.Prelude.{Bool, not, ◌&&◌, List, map, ℕ, eqb}
use Rattle.lists.specs.Lists.{below, select, count_below, total}
use Rattle.netlist.specs.Net.{Net, size, element_at, source, operands, is_register}
use Rattle.retiming.specs.Rewrite.{root, passed}

-- s is a register on a wire that comes from u, wherever it stands on it: `from_source` (BySourceLaws) says it by steps
unfoldable pub on_wire_from : Net → ℕ → ℕ → Bool
on_wire_from M u s = is_register (element_at M s) && eqb (root M s) u

-- the registers on the wires that come from u: "the whole chains"
unfoldable pub registers_from : Net → ℕ → ℕ
registers_from M u = count_below (on_wire_from M u) (size M)

-- the registers on the wires to the operands of x
unfoldable pub registers_to : Net → ℕ → ℕ
registers_to M x = total (map (λ p. passed M (source M x p)) (below (operands (element_at M x))))

unfoldable pub by_source : Net → List ℕ
by_source M = select (λ v. not (is_register (element_at M v))) (registers_from M) (size M)

unfoldable pub by_reader : Net → List ℕ
by_reader M = select (λ v. not (is_register (element_at M v))) (registers_to M) (size M)
