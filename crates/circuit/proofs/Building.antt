-- Laws of what specs/Building.antt defines. Assumes nothing.
use Rattle.std.specs.Prelude.{◌≡◌, ℕ, zero, suc, ◌+◌, ◌*◌, ◌≤◌, ◌<◌, set, take, drop}
use Rattle.std.proofs.Math.Path.{refl, ap, ap₂, subst}
use Rattle.std.proofs.Common.{sym, ◌∙◌, zero-le, zero-add, arith, length-take-le, take-suc, take_all, ext_get_or, below_more}
use mathlib.Core.List.{List, [], ◌∷◌, ◌++◌, append_assoc, map}
use Rattle.std.proofs.Math.ListN.{length, get_or, length-set}
use Rattle.std.proofs.lemmas.List.Edits.{sets, sets-eq}
use Rattle.std.proofs.Math.Seq.{length-sets, get_or-set_same, get_or-set_other, get_or-append-add, get_or-take, take-append_seam}
use Rattle.lists.specs.Lists.{below, up_from}
use Rattle.lists.proofs.ListsLaws.{map-append}
use Rattle.lists.proofs.BelowLaws.{length_listed, get_or_listed, up_from_split}
use Rattle.netlist.specs.declared.Node.{Node}
use Rattle.netlist.specs.ScanLaws.{TableAt}
use Rattle.netlist.specs.File.{table_in}
use Rattle.netlist.specs.Net.{nowhere}
use Rattle.circuit.specs.declared.Row.{Row}
use Rattle.circuit.specs.Circuit.{rows_from, row_words, circuit_words, field, row_node, row_at, nodes_of, tables_of, net_of, Fits, Formed, Circuit}
use Rattle.circuit.proofs.CircuitLaws.{size-nodes, size-tables}
use Rattle.circuit.specs.Building.{stored, Pushed, Built, Building}

-- ---- lists of values below a number

pub listed_same : {A : Type 0} (d : A) (f g : ℕ → A) {n m : ℕ} → n ≡ m → ((j : ℕ) → j < m → f j ≡ g j) → map f (below n) ≡ map g (below m)
listed_same d f g {n} {m} e same = ext_get_or d _ _ (length_listed f n ∙ e ∙ sym (length_listed g m))
    (λ j h. get_or_listed f n j d (omega (arith, length_listed f n)) ∙ same j (omega (arith, length_listed f n)) ∙ sym (get_or_listed g m j d (omega (arith, length_listed f n))))

pub listed_more : {A : Type 0} (f : ℕ → A) (n : ℕ) → map f (below (n + 1)) ≡ map f (below n) ++ (f n ∷ [])
listed_more f n = ap (map f) (up_from_split 0 n 1) ∙ map-append f (below n) (up_from (0 + n) 1) ∙ ap (λ (k : ℕ). map f (below n) ++ (f k ∷ [])) (zero-add n)

-- a list of three
pub three_are : (l : List ℕ) → length l ≡ 3 → l ≡ get_or l 0 0 ∷ get_or l 1 0 ∷ get_or l 2 0 ∷ []
three_are l e = ext_get_or 0 _ _ e go
  where
    go : (i : ℕ) → i < length l → get_or l i 0 ≡ get_or (get_or l 0 0 ∷ get_or l 1 0 ∷ get_or l 2 0 ∷ []) i 0
    go zero h = refl
    go (suc zero) h = refl
    go (suc (suc zero)) h = refl
    go (suc (suc (suc i))) h = absurd (omega arith)

eight_stores : (l : List ℕ) (i a b c d e f g h : ℕ) → sets l i (a ∷ b ∷ c ∷ d ∷ e ∷ f ∷ g ∷ h ∷ []) ≡ stored l i a b c d e f g h
eight_stores l i a b c d e f g h =
    let p₁ : suc i ≡ i + 1 = omega arith in
    let p₂ : suc (suc i) ≡ i + 2 = omega arith in
    let p₃ : suc (suc (suc i)) ≡ i + 3 = omega arith in
    let p₄ : suc (suc (suc (suc i))) ≡ i + 4 = omega arith in
    let p₅ : suc (suc (suc (suc (suc i)))) ≡ i + 5 = omega arith in
    let p₆ : suc (suc (suc (suc (suc (suc i))))) ≡ i + 6 = omega arith in
    let p₇ : suc (suc (suc (suc (suc (suc (suc i)))))) ≡ i + 7 = omega arith in
    λ j. set (set (set (set (set (set (set (set l i a) (p₁ j) b) (p₂ j) c) (p₃ j) d) (p₄ j) e) (p₅ j) f) (p₆ j) g) (p₇ j) h

unfoldable pushed : List ℕ → ℕ → List ℕ → List ℕ
pushed l v vs = set (sets l (rows_from + row_words * v) vs) 0 (v + 1)

get_or_left : (l r : List ℕ) (j : ℕ) → j < length l → get_or (l ++ r) j 0 ≡ get_or l j 0
get_or_left l r j h = sym (get_or-take (length l) (l ++ r) j 0 h) ∙ ap (λ (y : List ℕ). get_or y j 0) (take-append_seam l r)

module _ (l : List ℕ) (v : ℕ) (vs : List ℕ) (room : circuit_words ≤ length l) (few : v < 1024) (eight : length vs ≡ 8) where
  abbrev at : ℕ
  at = rows_from + row_words * v

  abbrev put : List ℕ
  put = sets l at vs

  abbrev rest : List ℕ
  rest = vs ++ drop (at + length vs) l

  split : put ≡ take at l ++ rest
  split = sets-eq vs l at (omega arith) ∙ append_assoc (take at l) vs (drop (at + length vs) l)

  front : length (take at l) ≡ at
  front = length-take-le at l (omega arith)

  pushed-length : length (pushed l v vs) ≡ length l
  unfolding pushed
  pushed-length = length-set put 0 (v + 1) ∙ length-sets l at vs

  pushed_count : get_or (pushed l v vs) 0 0 ≡ v + 1
  unfolding pushed
  pushed_count = get_or-set_same put 0 (v + 1) 0 (omega (arith, length-sets l at vs))

  pushed_before : (j : ℕ) → 0 < j → j < at → get_or (pushed l v vs) j 0 ≡ get_or l j 0
  unfolding pushed
  pushed_before j a b =
      get_or-set_other put 0 j (v + 1) 0 (λ q. omega arith)
      ∙ ap (λ (y : List ℕ). get_or y j 0) split
      ∙ get_or_left (take at l) rest j (omega (arith, front))
      ∙ get_or-take at l j 0 b

  pushed_row : (k : ℕ) → k < 8 → field (pushed l v vs) v k ≡ get_or vs k 0
  unfolding pushed
  pushed_row k h =
      get_or-set_other put 0 (at + k) (v + 1) 0 (λ q. omega arith)
      ∙ ap₂ (λ (y : List ℕ) (n : ℕ). get_or y (n + k) 0) split (sym front)
      ∙ get_or-append-add (take at l) rest k 0
      ∙ get_or_left vs (drop (at + length vs) l) k (omega arith)

-- a row of the same words
pub row_same : (l m : List ℕ) (u : ℕ) → ((k : ℕ) → k < 8 → field m u k ≡ field l u k) → row_at m u ≡ row_at l u
row_same l m u e = λ i. record {
  code = e 0 (omega arith) i;
  width = e 1 (omega arith) i;
  count = e 2 (omega arith) i;
  sources = e 3 (omega arith) i ∷ e 4 (omega arith) i ∷ e 5 (omega arith) i ∷ [];
  number = e 6 (omega arith) i;
  table = e 7 (omega arith) i;
}

module _ (l : List ℕ) (v : ℕ) (r : Row) {a b c : ℕ} (three : r.sources ≡ a ∷ b ∷ c ∷ []) (t : Formed l) (e : v ≡ length (nodes_of l)) (few : v < 1024) (fits : Fits r) where
  abbrev vs : List ℕ
  vs = r.code ∷ r.width ∷ r.count ∷ a ∷ b ∷ c ∷ r.number ∷ r.table ∷ []

  abbrev m : List ℕ
  m = pushed l v vs

  earlier : (u : ℕ) → u < v → (k : ℕ) → k < 8 → field m u k ≡ field l u k
  earlier u h k q = pushed_before l v vs t.room few refl (rows_from + row_words * u + k) (omega arith) (omega arith)

  here : (k : ℕ) → k < 8 → field m v k ≡ get_or vs k 0
  here k q = pushed_row l v vs t.room few refl k q

  now_row : row_at m v ≡ r
  now_row =
      (λ i. record {
        code = here 0 (omega arith) i;
        width = here 1 (omega arith) i;
        count = here 2 (omega arith) i;
        sources = here 3 (omega arith) i ∷ here 4 (omega arith) i ∷ here 5 (omega arith) i ∷ [];
        number = here 6 (omega arith) i;
        table = here 7 (omega arith) i;
      })
      ∙ (λ i. record { code = r.code; width = r.width; count = r.count; sources = sym three i; number = r.number; table = r.table })

  counted : length (nodes_of m) ≡ v + 1
  counted = size-nodes m ∙ pushed_count l v vs t.room few refl

  same_tables : tables_of m ≡ tables_of l
  unfolding tables_of
  same_tables =
      listed_same 0 _ _ (pushed_before l v vs t.room few refl 1 (omega arith) (omega arith))
      (λ j h. pushed_before l v vs t.room few refl (2 + j) (omega arith) (omega (arith, t.few_tables, size-tables l)))

  more-nodes : nodes_of m ≡ nodes_of l ++ (row_node r ∷ [])
  unfolding nodes_of
  more-nodes =
      ap (λ (n : ℕ). map (λ u. row_node (row_at m u)) (below n)) (pushed_count l v vs t.room few refl)
      ∙ listed_more (λ u. row_node (row_at m u)) v
      ∙ ap₂ (λ (y : List Node) (x : Node). y ++ (x ∷ []))
      (listed_same nowhere (λ u. row_node (row_at m u)) (λ u. row_node (row_at l u)) (e ∙ size-nodes l) (λ j h. ap row_node (row_same l m j (earlier j (omega (arith, size-nodes l))))))
      (ap row_node now_row)

  push_law : Pushed l (row_node r) m
  push_law = record {
    formed = record {
      room = omega (arith, t.room, pushed-length l v vs t.room few refl);
      few = omega (arith, counted);
      few_tables = omega (arith, t.few_tables, ap length same_tables);
      row = λ u h. below_more (λ (u : ℕ). Fits (row_at m u)) v (λ u k. subst Fits (sym (row_same l m u (earlier u k))) (t.row u (omega arith))) (subst Fits (sym now_row) fits) u (omega (arith, counted));
    };
    tables = same_tables;
    nodes = more-nodes;
  }

  -- THE LAW of a row put
  pub row_put : Pushed l (row_node r) (set (stored l (rows_from + row_words * v) r.code r.width r.count a b c r.number r.table) 0 (v + 1))
  unfolding pushed
  row_put = subst (λ (y : List ℕ). Pushed l (row_node r) (set y 0 (v + 1))) (eight_stores l (rows_from + row_words * v) r.code r.width r.count a b c r.number r.table) push_law

pub building_none : {ts l : List ℕ} (xs : List Node) → Built ts [] l → Building ts xs l 0
building_none xs t = record { below = zero-le; built = t }

module _ {ts l : List ℕ} {xs : List Node} {v : ℕ} (t : Building ts xs l v) where
  -- so many nodes are in it
  pub building_size : v ≡ length (nodes_of l)
  building_size = sym (ap length t.built.nodes ∙ length-take-le v xs t.below)

  pub building_more : {m : List ℕ} {x : Node} → v < length xs → x ≡ get_or xs v nowhere → Pushed l x m → Building ts xs m (v + 1)
  building_more {m} {x} h e p = record {
    below = omega arith;
    built = record {
      formed = p.formed;
      tables = p.tables ∙ t.built.tables;
      nodes = p.nodes ∙ ap₂ (λ (y : List Node) (z : Node). y ++ (z ∷ [])) t.built.nodes e ∙ sym (take-suc xs v nowhere h) ∙ ap (λ (k : ℕ). take k xs) next;
    };
  }
    where
      next : suc v ≡ v + 1
      next = omega arith

  pub building_done : length xs ≤ v → Built ts xs l
  building_done h = subst (λ (y : List Node). Built ts y l) (take_all v xs h) t.built

module _ (s : List ℕ) {ts : List ℕ} {xs : List Node} {l : List ℕ} (t : Built ts xs l) where
  pub built_net : net_of s l ≡ record { tables = map (table_in s) ts; nodes = xs }
  unfolding net_of
  built_net = λ i. record { tables = map (table_in s) (t.tables i); nodes = t.nodes i }

  pub built_circuit : length s ≤ 46000 → ((k : ℕ) → k < length ts → TableAt s (get_or ts k 0)) → Circuit s l
  unfolding net_of
  built_circuit short at = record {
    formed = t.formed;
    few = t.formed.few;
    short = short;
    tables = subst (λ (y : List ℕ). (k : ℕ) → k < length y → TableAt s (get_or y k 0)) (sym t.tables) at;
  }

-- ---- THE THEOREM of a pass from circuit to circuit: the tables stay, the nodes are those that were built

pub rebuilt : (s l : List ℕ) {xs : List Node} {m : List ℕ} → Circuit s l → Built (tables_of l) xs m → (net_of s m ≡ record { tables = (net_of s l).tables; nodes = xs }) × Circuit s m
unfolding net_of
rebuilt s l i t = (built_net s t, built_circuit s t i.short i.tables)
