-- A file is read field by field into a circuit: what holds between two fields, and what a field makes of it. Assumes nothing.
use Rattle.std.specs.Prelude.{◌≡◌, true, false, List, [], ◌∷◌, ◌++◌, map, ℕ, zero, suc, ◌+◌, ◌≤◌, ◌<◌, length, Result, Ok, Err, IfOk, IfErr}
use Rattle.std.proofs.Math.Path.{refl, sym, ap}
use Rattle.std.proofs.Common.{ap₂, subst, ◌∙◌, arith, length-append}
use Rattle.std.proofs.lemmas.List.{length-map}
use Rattle.lists.proofs.ListsLaws.{no_length, map-append}
use Rattle.lists.proofs.Paths.{arms, arms_lt, on_lt, off_lt}
use Rattle.netlist.specs.Scan.{table_step, node_step, end_step, Step, Refuse, TableField, NodeField, EndField, refused, found, follow, step_at, walk, after_head, scan}
use Rattle.netlist.specs.ScanLaws.{NodeAt}
use Rattle.netlist.proofs.ScanLaws.{table_step_lem, node_step_lem, walk_step, scan_found}
use Rattle.netlist.specs.File.{bad, good, node_in, net_in, decode, decoded}
use Rattle.netlist.specs.declared.Node.{Node}
use Rattle.netlist.specs.declared.Refusal.{Refusal}
use Rattle.netlist.specs.Refusal.{number_of, place_of}
use Rattle.netlist.specs.Verdict.{Verdict, Fine, Refuses}
use Rattle.circuit.specs.Circuit.{nodes_of, net_of, Circuit}
use Rattle.circuit.specs.Building.{Pushed, Built}
use Rattle.circuit.proofs.Building.{built_net, built_circuit}
use Rattle.reader.specs.Head.{Headed}
use Rattle.reader.specs.Fields.{whole, table_stands, node_stands, stepped, last_step, step_table, step_node, step_last}
use Rattle.reader.proofs.Verdicts.{verdict_of}
use Rattle.opening.specs.Opening.{Filled, turned_away, read, built_node}

module _ (s : List ℕ) where
  refusal : {k p : ℕ} → refused k p ≡ scan s → decode s ≡ bad k p
  unfolding decode
  refusal e = ap (decoded s) (sym e)

  pub too_long : 46000 < length s → decode s ≡ bad 1 0
  unfolding scan
  too_long h = refusal (on_lt _ _ 46000 (length s) h refl)

  pub bad_head : {k p : ℕ} → length s ≤ 46000 → after_head s ≡ refused k p → decode s ≡ bad k p
  unfolding scan
  bad_head h e = refusal (off_lt _ _ 46000 (length s) h (sym e))

-- the reading has come to an offset, with t tables and n nodes before it, which the circuit shows
pub record Turn (s l : List ℕ) (at t n : ℕ) : Type 0 where
  pub inside : at ≤ length s
  pub small : length s ≤ 46000
  pub few_tables : t ≤ 16
  pub few_nodes : n ≤ 1024
  pub tables : List ℕ
  pub nodes : List ℕ
  pub table_count : t ≡ length tables
  pub node_count : n ≡ length nodes
  pub built : Built tables (map (node_in s) nodes) l
  pub fuel : ℕ
  pub enough : length s < fuel + at
  pub goes : walk fuel s at tables nodes ≡ scan s

pub start : (s l : List ℕ) → length s ≤ 46000 → Headed s → Built [] [] l → Turn s l 4 0 0
unfolding scan
start s l k h b = record {
  inside = h.room;
  small = k;
  few_tables = omega arith;
  few_nodes = omega arith;
  tables = [];
  nodes = [];
  table_count = refl;
  node_count = refl;
  built = b;
  fuel = length s;
  enough = omega arith;
  goes = off_lt _ _ 46000 (length s) k (sym h.goes);
}

module _ {s l : List ℕ} {at t n : ℕ} (w : Turn s l at t n) where
  -- the walk takes the step that stands at the offset
  walked : (f : ℕ) → w.fuel ≡ f → (x : Step) → step_at s at t n ≡ x
      → (g : ℕ) × (length s < suc g + at) × (follow x (found w.tables w.nodes) (λ next. walk g s next (w.tables ++ (at ∷ [])) w.nodes) (λ next. walk g s next w.tables (w.nodes ++ (at ∷ []))) ≡ scan s)
  walked zero e x p = absurd (let h = w.enough in let i = w.inside in omega arith)
  walked (suc g) e x p = (
    g,
    subst (λ (k : ℕ). length s < k + at) e w.enough,
    sym (walk_step g s at w.tables w.nodes x (ap₂ (step_at s at) (sym w.table_count) (sym w.node_count) ∙ p)) ∙ ap (λ (k : ℕ). walk k s at w.tables w.nodes) (sym e) ∙ w.goes,
  )

  pub refuses : {k p : ℕ} → step_at s at t n ≡ Refuse k p → decode s ≡ bad k p
  refuses {k} {p} e = refusal s (walked w.fuel refl (Refuse k p) e).2

  pub ends : step_at s at t n ≡ EndField → (decode s ≡ good (net_of s l)) × Circuit s l
  unfolding decode net_in
  ends e =
      let q = sym (walked w.fuel refl EndField e).2 in
      let f = scan_found s w.tables w.nodes q in
      (ap (decoded s) q ∙ ap good (sym (built_net s w.built)), built_circuit s w.built f.short f.tables)

  pub table_bounds : {next : ℕ} → step_at s at t n ≡ TableField next → (at + 3 ≤ next) × (next ≤ length s) × (t < 16)
  table_bounds {next} e =
      let b = table_step_lem s at t n next e in
      let i = b.1.inside in
      let q = b.0 in
      (omega arith, omega arith, b.2)

  pub node_bounds : {next : ℕ} → step_at s at t n ≡ NodeField next → (at + 3 ≤ next) × (next ≤ length s) × (n < 1024)
  node_bounds {next} e =
      let b = node_step_lem s at t n next e in
      let i = b.1.inside in
      let q = b.0 in
      (omega arith, omega arith, b.2)

  -- where a node field stands, and how many nodes the circuit shows
  pub node_there : {next : ℕ} → step_at s at t n ≡ NodeField next → NodeAt s at
  node_there {next} e = (node_step_lem s at t n next e).1

  pub shown : n ≡ length (nodes_of l)
  shown = w.node_count ∙ sym (length-map w.nodes (node_in s)) ∙ sym (ap length w.built.nodes)

  pub table_turns : {next : ℕ} {m : List ℕ} → step_at s at t n ≡ TableField next → ((ts : List ℕ) → t ≡ length ts → Built ts [] l → Built (ts ++ (at ∷ [])) [] m) → Turn s m next (t + 1) n
  table_turns {next} {m} e more =
      let b = table_bounds e in
      let f = walked w.fuel refl (TableField next) e in
      let g = f.1 in
      record {
        inside = b.1;
        small = w.small;
        few_tables = omega (arith, b.2);
        few_nodes = w.few_nodes;
        tables = w.tables ++ (at ∷ []);
        nodes = w.nodes;
        table_count = omega (arith, w.table_count, length-append w.tables (at ∷ []));
        node_count = w.node_count;
        built = subst (λ (xs : List ℕ). Built (w.tables ++ (at ∷ [])) (map (node_in s) xs) m) (sym none) (more w.tables w.table_count (subst (λ (xs : List ℕ). Built w.tables (map (node_in s) xs) l) none w.built));
        fuel = f.0;
        enough = omega (arith, b.0, g);
        goes = f.2;
      }
    where
      none : w.nodes ≡ []
      none = no_length w.nodes (sym w.node_count ∙ (table_step_lem s at t n next e).3)

  pub node_turns : {next : ℕ} {m : List ℕ} {x : Node} → step_at s at t n ≡ NodeField next → x ≡ node_in s at → Pushed l x m → Turn s m next t (n + 1)
  node_turns {next} {m} {x} e is p =
      let b = node_bounds e in
      let f = walked w.fuel refl (NodeField next) e in
      let g = f.1 in
      record {
        inside = b.1;
        small = w.small;
        few_tables = w.few_tables;
        few_nodes = omega (arith, b.2);
        tables = w.tables;
        nodes = w.nodes ++ (at ∷ []);
        table_count = w.table_count;
        node_count = omega (arith, w.node_count, length-append w.nodes (at ∷ []));
        built = subst (λ (xs : List Node). Built w.tables xs m) (ap (λ (y : Node). map (node_in s) w.nodes ++ (y ∷ [])) is ∙ sym (map-append (node_in s) w.nodes (at ∷ []))) (built_node w.built p);
        fuel = f.0;
        enough = omega (arith, b.0, g);
        goes = f.2;
      }

-- ---- the tables, the nodes, and what stands behind them

-- all tables are read: no other stands there
pub record TablesRead (s l : List ℕ) (at : ℕ) : Type 0 where
  pub count : ℕ
  pub turn : Turn s l at count 0
  pub none : table_stands s at ≡ false

-- all nodes are read: no other stands there
pub record NodesRead (s l : List ℕ) (at : ℕ) : Type 0 where
  pub tables : ℕ
  pub count : ℕ
  pub turn : Turn s l at tables count
  pub first : count ≡ 0 → table_stands s at ≡ false
  pub none : node_stands s at ≡ false

-- a refusal of number k, which is the file's: a bad table is 4, a bad node 5
pub record BadField (k : ℕ) (s : List ℕ) (r : Refusal) : Type 0 where
  pub number : number_of r ≡ k
  pub file : decode s ≡ bad k (place_of r)

pub table_bad : {s l : List ℕ} {r : Refusal} → BadField 4 s r → Filled s l (Refuses 4 (place_of r))
table_bad b = turned_away b.file

pub node_bad : {s l : List ℕ} {r : Refusal} → BadField 5 s r → Filled s l (Refuses 5 (place_of r))
node_bad b = turned_away b.file

-- it is the refusal of the whole file
pub bad_said : {k : ℕ} {s : List ℕ} {r : Refusal} → BadField k s r → decode s ≡ bad (number_of r) (place_of r)
bad_said {k} {s} {r} b = b.file ∙ ap (λ (j : ℕ). bad j (place_of r)) (sym b.number)

pub behind-tables : {s l : List ℕ} {at : ℕ} → TablesRead s l at → (t : ℕ) × Turn s l at t 0 × (table_stands s at ≡ false)
behind-tables m = (m.count, m.turn, m.none)

pub behind_inside : {s l : List ℕ} {at : ℕ} → NodesRead s l at → (length s ≤ 46000) × (at ≤ length s)
behind_inside m = (m.turn.small, m.turn.inside)

-- where a table or a node alone may come, the definition's steps refuse with 4 or 5 alone
abbrev Says : ℕ → ℕ → ℕ → Step → Type 0
Says j k p x = x ≡ Refuse k p → k ≡ j

module _ (s : List ℕ) (at : ℕ) {k p : ℕ} where
  no_table_field : {next : ℕ} → TableField next ≡ Refuse k p → k ≡ 4
  no_table_field e = let z : ◌≡◌ {A = ℕ} 0 1 = cc in absurd (omega arith)

  no_node_field : {next : ℕ} → NodeField next ≡ Refuse k p → k ≡ 5
  no_node_field e = let z : ◌≡◌ {A = ℕ} 0 1 = cc in absurd (omega arith)

  pub table_four : (t : ℕ) → table_step s at t 0 ≡ Refuse k p → k ≡ 4
  unfolding table_step
  table_four t =
      arms_lt (Says 4 k p) _ _ 0 0 (λ h. absurd (omega arith)) (λ _.
      arms (Says 4 k p) _ _ _ (λ _. arms (Says 4 k p) _ _ _ (λ _. no_table_field) (λ _ e. cc)) (λ _ e. cc))

  pub node_five : (n : ℕ) → node_step s at n ≡ Refuse k p → k ≡ 5
  unfolding node_step
  node_five n = arms (Says 5 k p) _ _ _ (λ _. arms (Says 5 k p) _ _ _ (λ _. no_node_field) (λ _ e. cc)) (λ _ e. cc)

-- a table that stands there is refused, or read
module _ {s l : List ℕ} {at t : ℕ} (w : Turn s l at t 0) (stands : table_stands s at ≡ true) where
  pub table-refused : (r : Refusal) → table_step s at t 0 ≡ stepped TableField (Err r) → decode s ≡ bad (number_of r) (place_of r)
  table-refused r e = refuses w (step_table s at t 0 stands ∙ e)

  pub bad_table : (r : Refusal) → table_step s at t 0 ≡ stepped TableField (Err r) → BadField 4 s r
  bad_table r e =
      let four = table_four s at t e in
      record { number = four; file = table-refused r e ∙ ap (λ (j : ℕ). bad j (place_of r)) four }

  pub table_taken : {next : ℕ} → table_step s at t 0 ≡ stepped TableField (Ok next) → step_at s at t 0 ≡ TableField next
  table_taken e = step_table s at t 0 stands ∙ e

-- and a node
module _ {s l : List ℕ} {at t n : ℕ} (w : Turn s l at t n) (stands : node_stands s at ≡ true) where
  pub node_refused : (r : Refusal) → node_step s at n ≡ stepped NodeField (Err r) → decode s ≡ bad (number_of r) (place_of r)
  node_refused r e = refuses w (step_node s at t n stands ∙ e)

  pub bad_node : (r : Refusal) → node_step s at n ≡ stepped NodeField (Err r) → BadField 5 s r
  bad_node r e =
      let five = node_five s at n e in
      record { number = five; file = node_refused r e ∙ ap (λ (j : ℕ). bad j (place_of r)) five }

  pub node_taken : {next : ℕ} → node_step s at n ≡ stepped NodeField (Ok next) → step_at s at t n ≡ NodeField next
  node_taken e = step_node s at t n stands ∙ e

-- what stands behind both
abbrev end_stepped : Result (Unit {0}) Refusal → Step
end_stepped r = stepped (λ _. EndField) r

module _ {s l : List ℕ} {at : ℕ} (m : NodesRead s l at) where
  step_end : step_at s at m.tables m.count ≡ last_step s at
  step_end = step_last s at m.tables m.count m.first m.none

  pub end-refused : (r : Refusal) → last_step s at ≡ end_stepped (Err r) → decode s ≡ bad (number_of r) (place_of r)
  end-refused r e = refuses m.turn (step_end ∙ e)

  pub end_taken : {u : Unit {0}} → last_step s at ≡ end_stepped (Ok u) → (decode s ≡ good (net_of s l)) × Circuit s l
  end_taken e = ends m.turn (step_end ∙ e)

  -- what it says of the file, whatever it says
  pub end_reads : (r : Result (Unit {0}) Refusal) → last_step s at ≡ end_stepped r → IfOk r (λ _. decode s ≡ good (net_of s l))
  end_reads (Ok u) e = (end_taken e).0
  end_reads (Err x) e = tt

  pub end_circuit : (r : Result (Unit {0}) Refusal) → last_step s at ≡ end_stepped r → IfOk r (λ _. Circuit s l)
  end_circuit (Ok u) e = (end_taken e).1
  end_circuit (Err x) e = tt

  pub end_bad : (r : Result (Unit {0}) Refusal) → last_step s at ≡ end_stepped r → IfErr r (λ x. decode s ≡ bad (number_of x) (place_of x))
  end_bad (Ok u) e = tt
  end_bad (Err x) e = end-refused x e

-- what stands behind both is the file's verdict
pub last_filled : {s l : List ℕ} {at : ℕ} {r : Verdict} → NodesRead s l at → r ≡ verdict_of (last_step s at) → Filled s l r
unfolding last_step end_step
last_filled {s} {l} {at} {r} m e = subst (Filled s l) (sym e) (told (step_last s at m.tables m.count m.first m.none))
  where
    P : Step → Type 0
    P x = step_at s at m.tables m.count ≡ x → Filled s l (verdict_of x)

    good_end : (decode s ≡ good (net_of s l)) × Circuit s l → Filled s l Fine
    good_end (q, o) = read q o

    told : P (last_step s at)
    told =
        arms P _ _ (whole s at)
        (λ _. arms P _ _ _ (λ _. arms P _ _ _ (λ _. arms P _ _ _ (λ _ z. good_end (ends m.turn z)) (λ _ z. turned_away (refuses m.turn z))) (λ _ z. turned_away (refuses m.turn z))) (λ _ z. turned_away (refuses m.turn z)))
        (λ _ z. turned_away (refuses m.turn z))
