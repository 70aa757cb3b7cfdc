-- Head and end, the tables, the nodes.
use native.Mathlib.Omega.{arith}
use Rattle.saving.specs.Encoded.{encode-length}
use Rattle.saving.proofs.circuit_length.Goals as goal

pub returns : goal.returns
returns c = omega (arith, c.nodes_length.ensures.length, c.tables_length.ensures.length, encode-length c.args.net.now.net)
