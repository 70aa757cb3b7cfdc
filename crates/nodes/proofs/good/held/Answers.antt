-- At 0 and at 10 `extra` computes.
use mathlib.Core.Path.{◌≡◌, refl, sym, ap}
use native.Mathlib.Omega.{arith}
use Rattle.lists.specs.Paths.{pick}
use Rattle.lists.proofs.Paths.{off_eq}
use Rattle.netlist.specs.NodeField.{extra}
use Rattle.nodes.proofs.good.held.Goals as goal

pub returns-in-0-clause-held : goal.returns-in-0-clause-held
unfolding pick
returns-in-0-clause-held c = sym (ap extra c.in-0.is)

pub returns-in-10-clause-held : goal.returns-in-10-clause-held
unfolding pick
returns-in-10-clause-held c = sym (ap extra c.in-10.is)

pub returns-in_default-clause-held : goal.returns-in_default-clause-held
returns-in_default-clause-held c = off_eq _ _ _ _ (λ (h : c.args.op ≡ 0). omega arith) (off_eq _ _ _ _ (λ (h : c.args.op ≡ 10). omega arith) refl)
