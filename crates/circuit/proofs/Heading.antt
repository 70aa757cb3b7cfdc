-- The head of a circuit is written: no node, and the tables one by one. Assumes nothing.
use Rattle.std.specs.Prelude.{◌≡◌, refl, List, [], ℕ, ◌+◌, ◌≤◌, ◌<◌, length, get_or, set}
use Rattle.std.proofs.Common.{◌∙◌, arith, length-set, get_or-set_same, get_or-set_other, ext_get_or, below_more}
use Rattle.netlist.specs.Net.{nowhere}
use Rattle.circuit.specs.Circuit.{circuit_words, row_node, row_at, nodes_of}
use Rattle.circuit.specs.Building.{Built}
use Rattle.circuit.proofs.CircuitLaws.{size-nodes, size-tables, table_place}
use Rattle.circuit.proofs.Building.{listed_same}

-- no node yet, and the first t tables are entered
pub record Heading (ts l : List ℕ) (t : ℕ) : Type 0 where
  pub room : circuit_words ≤ length l
  pub empty : get_or l 0 0 ≡ 0
  pub count : get_or l 1 0 ≡ length ts
  pub each : (u : ℕ) → u < t → get_or l (2 + u) 0 ≡ get_or ts u 0

pub heading_none : (l ts : List ℕ) {n : ℕ} → n ≡ length ts → circuit_words ≤ length l → Heading ts (set (set l 0 0) 1 n) 0
heading_none l ts {n} e r = record {
  room = omega (arith, length-set l 0 0, length-set (set l 0 0) 1 n);
  empty = get_or-set_other (set l 0 0) 1 0 n 0 (λ d. omega arith) ∙ get_or-set_same l 0 0 0 (omega arith);
  count = get_or-set_same (set l 0 0) 1 n 0 (omega (arith, length-set l 0 0)) ∙ e;
  each = λ u h. absurd (omega arith);
}

pub heading_more : {ts l : List ℕ} {t x : ℕ} → Heading ts l t → t < 16 → x ≡ get_or ts t 0 → Heading ts (set l (2 + t) x) (t + 1)
heading_more {ts} {l} {t} {x} k h e = record {
  room = omega (arith, k.room, length-set l (2 + t) x);
  empty = other 0 (λ d. omega arith) ∙ k.empty;
  count = other 1 (λ d. omega arith) ∙ k.count;
  each = below_more (λ (u : ℕ). get_or (set l (2 + t) x) (2 + u) 0 ≡ get_or ts u 0) t (λ u b. other (2 + u) (λ d. omega arith) ∙ k.each u b) (get_or-set_same l (2 + t) x 0 (omega (arith, k.room)) ∙ e);
}
  where
    other : (j : ℕ) → (j ≡ 2 + t → ⊥) → get_or (set l (2 + t) x) j 0 ≡ get_or l j 0
    other j d = get_or-set_other l (2 + t) j x 0 d

pub heading_done : {ts l : List ℕ} {t : ℕ} → Heading ts l t → length ts ≤ 16 → length ts ≤ t → Built ts [] l
unfolding nodes_of
heading_done {ts} {l} {t} k few h = record {
  formed = record {
    room = k.room;
    few = omega (arith, size-nodes l, k.empty);
    few_tables = omega (arith, size-tables l, k.count);
    row = λ v b. absurd (omega (arith, size-nodes l, k.empty));
  };
  tables = ext_get_or 0 _ ts (size-tables l ∙ k.count) (λ i b. table_place l i b ∙ k.each i (omega (arith, size-tables l, k.count)));
  nodes = listed_same nowhere (λ v. row_node (row_at l v)) (λ v. row_node (row_at l v)) k.empty (λ j b. absurd (omega arith));
}

-- no table and no node
pub built_none : (l : List ℕ) → circuit_words ≤ length l → Built [] [] (set (set l 0 0) 1 0)
built_none l h = heading_done (heading_none l [] refl h) (omega arith) (omega arith)
