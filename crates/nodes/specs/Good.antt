-- A test that chooses between an element and none tells whether a content is good (check 5). Assumes nothing.
use Rattle.std.specs.Prelude.{◌≡◌, refl, Bool, true, false, List, ℕ, Some, None}
use Rattle.lists.specs.Paths.{pick}
use Rattle.words.specs.declared.Op.{Op}
use Rattle.netlist.specs.NodeField.{gate_read, node_with}
use Rattle.netlist.specs.declared.Element.{Element}

pub found : (c : List ℕ) (e : Element) (b : Bool) → b ≡ (node_with c (pick b (Some e) None)).good
unfolding pick
found c e true = refl
found c e false = refl

pub found_op : (c : List ℕ) (o : Op) (b : Bool) → b ≡ (node_with c (gate_read (pick b (Some o) None))).good
unfolding pick
found_op c o true = refl
found_op c o false = refl
