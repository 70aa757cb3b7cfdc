use mathlib.Core.Path.{sym}
use native.Mathlib.Omega.{arith}
use Rattle.circuit.proofs.CircuitLaws.{size_of}
use Rattle.circuit.proofs.node_count.Goals as goal

pub returns-clause-count : goal.returns-clause-count
returns-clause-count c = sym (size_of _ _)

pub returns-clause-few : goal.returns-clause-few
returns-clause-few c = omega (arith, size_of c.args.file.now c.args.net.now, c.requires.few)
