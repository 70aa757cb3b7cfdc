-- How long the field of a node is, by what it holds besides its sources and how many sources it has. Assumes nothing.
use Rattle.std.specs.Prelude.{◌≡◌, List, ℕ, ◌+◌, ◌*◌, ◌<◌, ◌≤◌}
use Rattle.std.proofs.Math.Path.{ap}
use Rattle.std.proofs.Common.{arith, subst, sym}
use Rattle.std.proofs.Math.ListN.{length}
use Rattle.netlist.specs.declared.Node.{Node}
use Rattle.netlist.specs.declared.Element.{Element}
use Rattle.netlist.specs.Net.{size, node_at, element_at, operands}
use Rattle.netlist.specs.NodeField.{before_sources, after_sources}
use Rattle.netlist.specs.File.{node_bytes}
use Rattle.codec.proofs.ContentLength.{content-sum, content_short, length-content}
use Rattle.circuit.specs.Circuit.{row_node, net_of}
use Rattle.circuit.specs.Shown.{Shown, shown_by}
use Rattle.circuit.proofs.CircuitLaws.{node_of}

-- what a node holds besides kind, width and sources: a reset word, a table, both, an operation with a word or a lowest bit
abbrev pub own_length : Element → ℕ
own_length e = length (before_sources e) + length (after_sources e)

-- an opened netlist gives each node three sources
module _ (s l : List ℕ) (h : Shown) (e : shown_by s l ≡ h) (v : ℕ) (low : v < size h.net) where
  three : length (node_at h.net v).sources ≡ 3
  unfolding row_node
  three =
      let here : v < size (net_of s l) = subst (λ (g : Shown). v < size g.net) (sym e) low in
      subst (λ (g : Shown). length (node_at g.net v).sources ≡ 3) e (ap (λ (x : Node). length x.sources) (node_of s l v here))

  pub node_length : {own n : ℕ} → own ≡ own_length (element_at h.net v) → n ≡ operands (element_at h.net v)
      → (5 + own + 2 * n ≡ length (node_bytes (node_at h.net v))) × (5 + own + 2 * n ≤ 12)
  unfolding element_at
  node_length p q =
      let x = node_at h.net v in
      let sum = content-sum x.element in
      (omega (arith, length-content x three, sum, p, q), omega (arith, content_short x.element, sum, p, q))
