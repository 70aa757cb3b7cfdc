use native.Mathlib.Omega.{arith}
use Rattle.circuit.proofs.CircuitLaws.{size_is}
use Rattle.circuit.proofs.Ordering.{net_same, circuit_same, order_put}
use Rattle.circuit.proofs.put_order.Goals as goal

pub returns-clause-net : goal.returns-clause-net
returns-clause-net c = let a = c.args in let t = c.requires.circuit in net_same a.file.now a.net.now t a.i a.x

pub returns-clause-circuit : goal.returns-clause-circuit
returns-clause-circuit c = let a = c.args in let t = c.requires.circuit in circuit_same a.file.now a.net.now t a.i a.x

pub returns-clause-order : goal.returns-clause-order
returns-clause-order c = let a = c.args in let t = c.requires.circuit in order_put a.net.now t.formed a.i a.x (omega (arith, c.requires.node, size_is a.file.now a.net.now))
