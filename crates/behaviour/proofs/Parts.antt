-- A contract says each part of an outcome. Assumes nothing.
use Rattle.std.specs.Prelude.{◌≡◌}
use Rattle.std.proofs.Common.{sym, ap}
use Rattle.behaviour.specs.Service.{Filled, Ran}

pub filled : {x y : Filled} → y ≡ x → (x.answer ≡ y.answer) × (x.state ≡ y.state)
filled e = (sym (ap (λ (f : Filled). f.answer) e), sym (ap (λ (f : Filled). f.state) e))

pub ran : {x y : Ran} → y ≡ x → (x.answer ≡ y.answer) × (x.state ≡ y.state) × (x.outputs ≡ y.outputs)
ran e = (sym (ap (λ (r : Ran). r.answer) e), sym (ap (λ (r : Ran). r.state) e), sym (ap (λ (r : Ran). r.outputs) e))
