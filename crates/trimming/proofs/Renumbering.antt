-- The nodes of a circuit, from the first on, read their tables at new numbers. Assumes nothing.
use Rattle.std.specs.Prelude.{◌≡◌, refl, List, map, ℕ, ◌+◌, ◌≤◌, ◌<◌, length, get_or, set}
use Rattle.std.proofs.Math.Path.{ap₂}
use Rattle.std.proofs.Common.{ap, subst, ◌∙◌, zero-le, arith}
use Rattle.lists.proofs.Mapped.{mapped_length, mapped_next, mapped_more, mapped_all}
use Rattle.netlist.specs.declared.Node.{Node}
use Rattle.netlist.specs.Net.{nowhere, table_of, node_at, element_at}
use Rattle.netlist.specs.Trim.{node_over, renumbered}
use Rattle.netlist.proofs.Trimmed.{over_same}
use Rattle.circuit.specs.Code.{table_or}
use Rattle.circuit.proofs.CodeLaws.{rom-table}
use Rattle.circuit.specs.Circuit.{nodes_of, tables_of, net_of, Circuit}
use Rattle.circuit.specs.Building.{Built}
use Rattle.circuit.proofs.Building.{rebuilt}
use Rattle.circuit.specs.Renumbering.{Retabled}
use Rattle.trimming.specs.Renumbering.{Renumbering}

-- the number of its row's table, where only a ROM shows it
node_or : (g : ℕ → ℕ) (r : ℕ) (n : Node) → r ≡ table_or r n.element → node_over (g r) n ≡ renumbered g n
unfolding renumbered
node_or g r n q = λ i. record { element = over_same (g r) (g (table_of n.element)) n.element (λ m. ap g (rom-table n.element m q)) i; width = n.width; sources = n.sources }

pub renumbering_none : (g : ℕ → ℕ) {s l : List ℕ} → Circuit s l → Renumbering g l 0 l
renumbering_none g i = record { below = zero-le; built = record { formed = i.formed; tables = refl; nodes = refl } }

module _ {g : ℕ → ℕ} {l : List ℕ} {v : ℕ} {m : List ℕ} (t : Renumbering g l v m) where
  pub still_size : length (nodes_of m) ≡ length (nodes_of l)
  still_size = ap length t.built.nodes ∙ mapped_length (renumbered g) v (nodes_of l)

  pub still_circuit : {s : List ℕ} → Circuit s l → Circuit s m
  still_circuit {s} i = (rebuilt s l i t.built).1

  -- the next node is as it was
  next : v < length (nodes_of l) → get_or (nodes_of m) v nowhere ≡ get_or (nodes_of l) v nowhere
  next h = ap (λ (y : List Node). get_or y v nowhere) t.built.nodes ∙ mapped_next (renumbered g) v (nodes_of l) nowhere h

  pub renumbering_more : (s : List ℕ) (r : ℕ) {z : List ℕ} → v < length (nodes_of l) → r ≡ table_or r (element_at (net_of s m) v) → Retabled m v (g r) z → Renumbering g l (v + 1) z
  unfolding net_of element_at node_at
  renumbering_more s r h e p = record {
    below = omega arith;
    built = record {
      formed = p.formed;
      tables = p.tables ∙ t.built.tables;
      nodes =
          p.nodes ∙ ap₂ (λ (y : List Node) (x : Node). set y v x) t.built.nodes (node_or g r (get_or (nodes_of m) v nowhere) e ∙ ap (renumbered g) (next h))
          ∙ mapped_more (renumbered g) v (nodes_of l) nowhere h;
    };
  }

  pub renumbering_done : length (nodes_of l) ≤ v → Built (tables_of l) (map (renumbered g) (nodes_of l)) m
  renumbering_done h = subst (λ (y : List Node). Built (tables_of l) y m) (mapped_all (renumbered g) v (nodes_of l) h) t.built
