-- The new netlist, built node by node over the tables of the old one. Assumes nothing.
use Rattle.std.specs.Prelude.{◌≡◌, List, ℕ, ◌<◌, length, get_or}
use Rattle.std.proofs.Math.Path.{refl, sym}
use Rattle.std.proofs.Common.{ap, ◌∙◌}
use Rattle.netlist.specs.declared.Node.{Node}
use Rattle.netlist.specs.Net.{Net, node_at, nowhere}
use Rattle.circuit.specs.Circuit.{tables_of, net_of, Circuit}
use Rattle.circuit.specs.Building.{Built}
use Rattle.circuit.proofs.Building.{rebuilt}
use Rattle.behaviour.specs.Run.{zero_word}
use Rattle.retiming.specs.Rewrite.{Timing, new_tables}
use Rattle.retiming.specs.Gates.{spots, gated_with}
use Rattle.retiming.proofs.Candidate.{node_new}
use Rattle.layout.specs.PlannedNode.{new_node}

module _ (N : Net) (f : Timing) where
  pub new_node_lem : (i : ℕ) → i < length (spots N f (zero_word N)) → {x : Node} → x ≡ new_node N f i → x ≡ get_or (gated_with N f (zero_word N)).nodes i nowhere
  unfolding node_at
  new_node_lem i h e = e ∙ sym (node_new N f (zero_word N) i h)

  pub new-tables : (gated_with N f (zero_word N)).tables ≡ N.tables
  unfolding gated_with new_tables
  new-tables = refl

-- THE LAW: over the tables of the old circuit all nodes make the new netlist
pub laid : {s net new : List ℕ} {N : Net} (f : Timing) → net_of s net ≡ N → Circuit s net → Built (tables_of net) (gated_with N f (zero_word N)).nodes new
    → (net_of s new ≡ gated_with N f (zero_word N)) × Circuit s new
laid {s} {net} {N = N} f e k t =
    let r = rebuilt s net k t in
    (r.0 ∙ (λ i. record { tables = (ap (λ (M : Net). M.tables) e ∙ sym (new-tables N f)) i; nodes = (gated_with N f (zero_word N)).nodes }), r.1)
