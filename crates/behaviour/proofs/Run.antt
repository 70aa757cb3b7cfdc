-- Laws of what specs/Run.antt defines. Assumes nothing.
use Rattle.std.specs.Prelude.{◌≡◌, refl, List, ℕ}
use Rattle.netlist.specs.Net.{Net, contents_at}
use Rattle.behaviour.specs.Run.{contents_now}

-- what that is stands in this law alone
pub contents_now_lem : (N : Net) (state : List ℕ) (v : ℕ) → contents_now N state v ≡ contents_at N v
unfolding contents_now
contents_now_lem N state v = refl
