-- The marked tables move to the front, in their order. Assumes nothing.
use Rattle.std.specs.Prelude.{◌≡◌, refl, Bool, List, [], ◌∷◌, ◌++◌, ℕ, ◌+◌, ◌*◌, ◌≤◌, ◌<◌, length, get_or, set, ltb}
use Rattle.std.proofs.Common.{sym, ap₂, subst, ◌∙◌, append-nil, arith, length-set, get_or-set_same, get_or-set_other, ext_get_or, lt-ltb, le-ltb}
use Rattle.std.proofs.Math.Path.{ap}
use Rattle.lists.specs.Lists.{only, select}
use Rattle.lists.proofs.SelectLaws.{select-more, select_same}
use Rattle.lists.specs.Sections.{section}
use Rattle.lists.proofs.Sections.{section-length, section-read, section-more}
use Rattle.netlist.specs.Net.{nowhere}
use Rattle.circuit.specs.Circuit.{rows_from, row_words, row_node, row_at, nodes_of, tables_of, Fits, Formed}
use Rattle.circuit.proofs.CircuitLaws.{size-tables, table_place}
use Rattle.circuit.proofs.Building.{listed_same, row_same}
use Rattle.circuit.specs.Renumbering.{Kept}

-- THE INVARIANT: of the first k tables of l those that are marked stand in front in m, n of them; how many nodes there are, and what comes after, is as it was
pub record Keeping (marks l : List ℕ) (k n : ℕ) (m : List ℕ) : Type 0 where
  pub low : n ≤ k
  pub same_length : length m ≡ length l
  pub front : section 2 n m ≡ select (λ t. ltb 0 (get_or marks t 0)) (λ t. get_or l (2 + t) 0) k
  pub nodes : get_or m 0 0 ≡ get_or l 0 0
  pub after : (j : ℕ) → 2 + k ≤ j → get_or m j 0 ≡ get_or l j 0

pub keeping_none : (marks l : List ℕ) → Keeping marks l 0 0 l
keeping_none marks l = record { low = omega arith; same_length = refl; front = refl; nodes = refl; after = λ j h. refl }

module _ {marks l : List ℕ} {k n : ℕ} {m : List ℕ} (t : Keeping marks l k n m) where
  abbrev q : ℕ → Bool
  q u = ltb 0 (get_or marks u 0)

  abbrev table : ℕ → ℕ
  table u = get_or l (2 + u) 0

  abbrev x : ℕ
  x = get_or m (2 + k) 0

  -- table k is not marked, or it is
  pub keeping_past : get_or marks k 0 ≤ 0 → Keeping marks l (k + 1) n m
  keeping_past h = record {
    low = omega (arith, t.low);
    same_length = t.same_length;
    front =
        t.front ∙ sym (append-nil _)
        ∙ sym (select-more q table k ∙ ap (λ (b : Bool). select q table k ++ only b (table k)) (le-ltb 0 (get_or marks k 0) h));
    nodes = t.nodes;
    after = λ j i. t.after j (omega arith);
  }

  pub keeping_more : 0 < get_or marks k 0 → 2 + k < length l → Keeping marks l (k + 1) (n + 1) (set m (2 + n) (get_or m (2 + k) 0))
  keeping_more h room = record {
    low = omega (arith, t.low);
    same_length = length-set m (2 + n) x ∙ t.same_length;
    front =
        section-more 2 n m x (omega (arith, t.low, t.same_length))
        ∙ ap₂ (λ (y : List ℕ) (z : ℕ). y ++ (z ∷ [])) t.front (t.after (2 + k) (omega arith))
        ∙ sym (select-more q table k ∙ ap (λ (b : Bool). select q table k ++ only b (table k)) (lt-ltb 0 (get_or marks k 0) h));
    nodes = get_or-set_other m (2 + n) 0 x 0 (λ e. omega arith) ∙ t.nodes;
    after = λ j i. get_or-set_other m (2 + n) j x 0 (λ e. omega (arith, t.low)) ∙ t.after j (omega arith);
  }

-- all are looked at, and the kept ones are counted
module _ {marks l : List ℕ} {n : ℕ} {m : List ℕ} (f : Formed l) (t : Keeping marks l (get_or l 1 0) n m) where
  abbrev end : List ℕ
  end = set m 1 n

  few : get_or l 1 0 ≤ 16
  few = omega (arith, f.few_tables, size-tables l)

  size_kept : get_or end 1 0 ≡ n
  size_kept = get_or-set_same m 1 n 0 (omega (arith, f.room, t.same_length))

  table_at : (j : ℕ) → j < length (tables_of end) → get_or (tables_of end) j 0 ≡ get_or (section 2 n m) j 0
  table_at j h =
      table_place end j h ∙ get_or-set_other m 1 (2 + j) n 0 (λ e. omega arith)
      ∙ sym (section-read 2 n m j (omega (arith, size-tables end, size_kept)))

  kept_tables : tables_of end ≡ select (λ u. ltb 0 (get_or marks u 0)) (λ u. get_or (tables_of l) u 0) (length (tables_of l))
  kept_tables =
      ext_get_or 0 _ _ (size-tables end ∙ size_kept ∙ sym (section-length 2 n m (omega (arith, f.room, few, t.low, t.same_length)))) table_at
      ∙ t.front
      ∙ select_same (λ u. ltb 0 (get_or marks u 0)) (λ u. get_or l (2 + u) 0) (λ u. get_or (tables_of l) u 0) (get_or l 1 0) (λ u h e. sym (table_place l u (omega (arith, size-tables l))))
      ∙ ap (select (λ u. ltb 0 (get_or marks u 0)) (λ u. get_or (tables_of l) u 0)) (sym (size-tables l))

  row_kept : (u : ℕ) → row_at end u ≡ row_at l u
  row_kept u = row_same l end u (λ i h. get_or-set_other m 1 (rows_from + row_words * u + i) n 0 (λ e. omega arith) ∙ t.after (rows_from + row_words * u + i) (omega (arith, few)))

  kept_nodes : nodes_of end ≡ nodes_of l
  unfolding nodes_of
  kept_nodes =
      listed_same nowhere (λ u. row_node (row_at end u)) (λ u. row_node (row_at l u)) (get_or-set_other m 1 0 n 0 (λ e. omega arith) ∙ t.nodes)
      (λ j h. ap row_node (row_kept j))

  -- THE LAW of the tables kept
  pub tables_kept : Kept marks l (set m 1 n)
  tables_kept = record {
    formed = record {
      room = omega (arith, f.room, t.same_length, length-set m 1 n);
      few = omega (arith, f.few, ap length kept_nodes);
      few_tables = omega (arith, few, t.low, size-tables end, size_kept);
      row = λ u h. subst Fits (sym (row_kept u)) (f.row u (omega (arith, ap length kept_nodes)));
    };
    tables = kept_tables;
    nodes = kept_nodes;
  }
