-- Which node of the new file is which of the old one, of every file that a mode accepts: what `comes_from` means, and so "the same nodes" of T-07. A node that comes
-- from u has u's element, a ROM clocked, and u's width; what comes from none is a register, a constant or a choose gate; and each node that is no register and is not
-- left out has one that comes from it. `s` is the old file and `N` its netlist, `s'` the new file and `M` its netlist. Assumes nothing.
use Rattle.std.specs.Prelude.{◌≡◌, false, [], ◌∷◌, ℕ, ◌<◌}
use Rattle.netlist.specs.Net.{Net, size, element_at, is_register}
use Rattle.retiming.specs.declared.Mode.{Mode}
use Rattle.retiming.specs.Lengths.{comes_from, SameNode, Aside, NotLeftOut}

pub record NodesKept (mode : Mode) (N M : Net) : Type 0 where
  pub same : (i u : ℕ) → comes_from mode N i ≡ u ∷ [] → SameNode N M u i
  pub aside : (i : ℕ) → i < size M → comes_from mode N i ≡ [] → Aside (element_at M i)
  pub there : (u : ℕ) → u < size N → is_register (element_at N u) ≡ false → NotLeftOut mode N u → (i : ℕ) × (comes_from mode N i ≡ u ∷ [])
