-- Verdicts, one after the other; and the reader finds nothing to refuse just where the netlist is well formed and reads its tables. Assumes nothing.
use Rattle.std.specs.Prelude.{◌≡◌, refl, ◌↔◌, ◌⊎◌, Bool, ◌&&◌, ◌||◌, List, [], ◌∷◌, ℕ, ◌+◌, ◌<◌, length, ltb}
use Rattle.std.proofs.Common.{sym, ap, ◌∙◌, inl, inr, arith, leb→le, le→leb, lt→ltb}
use Rattle.std.proofs.Math.Logic.{⊎_elim}
use Rattle.std.proofs.Math.Bool.{true, false, not, true≢false}
use Rattle.std.proofs.lemmas.Bool.{false≢true}
use Rattle.std.proofs.Math.Dec.{eqb, ltb→lt}
use Rattle.words.specs.declared.Op.{Op}
use Rattle.words.specs.declared.Op.TheVariants.{Constant, Not, And, Or, Xor, Add, Subtract, Equal, Less, Choose, Part, Join}
use Rattle.netlist.specs.declared.Memory.{Memory}
use Rattle.netlist.specs.declared.Element.{Element}
use Rattle.netlist.specs.declared.Element.TheVariants.{Input, Output, Register, Async, Clocked, Gate}
use Rattle.lists.specs.Lists.{any_below, lowest}
use Rattle.lists.proofs.BelowLaws.{T→true, true→T, true_or_false, and_left, and_right, eqb-true, eqb_self, any_below_intro, any_below_elim, any_below_none, lowest_none, lowest_all}
use Rattle.netlist.specs.Net.{Table, table_no, Net, size, element_at, width_at, source, operands, is_input, is_output, Class, in_registers, in_clock, Sourced}
use Rattle.netlist.specs.Reach.{Reads, reads_test}
use Rattle.netlist.specs.Reach.{reaches_itself}
use Rattle.netlist.specs.Verdict.{Verdict, Fine, Refuses, table_there, bad_source, op_widths, memory_right, widths_right, bad_width, unread, reads_table, table_in_use, unread_table, in_loop, in_ring, Stage, verdict, onward, reader_stages, reader_verdict}
use Rattle.netlist.specs.Rank.{Through, once, then}
use Rattle.netlist.specs.Checks.{OpWidths, MemoryWidths, ElementWidths, HasTable, table_in, SourcesRight, WidthsRight, HasReader, TableHasReader, FieldsFit, WellFormed, TablesRead}
use Rattle.netlist.proofs.ReachLaws.{reaches_itself_iff}

eqb_from : {m n : ℕ} → m ≡ n → eqb m n ≡ true
eqb_from {m} e = ap (eqb m) (sym e) ∙ eqb_self m

both : (a b : Bool) → a ≡ true → b ≡ true → (a && b) ≡ true
both a b e f = rw e f

not-true : (b : Bool) → not b ≡ false → b ≡ true
not-true true e = refl
not-true false e = absurd (true≢false e)

not-false : (b : Bool) → b ≡ true → not b ≡ false
not-false b e = rw e

or_left : (a b : Bool) → (a || b) ≡ false → a ≡ false
or_left true b e = absurd (true≢false e)
or_left false b e = refl

or_right : (a b : Bool) → (a || b) ≡ false → b ≡ false
or_right true b e = absurd (true≢false e)
or_right false b e = e

neither : (a b : Bool) → a ≡ false → b ≡ false → (a || b) ≡ false
neither a b e f = rw e f

none_below : (n : ℕ) (q : ℕ → Bool) → ((j : ℕ) → j < n → q j ≡ false) → any_below n q ≡ false
none_below n q h = ⊎_elim (λ t. let r = any_below_elim n q t in absurd (false≢true (sym (h r.0 r.1) ∙ r.2))) (λ t. t) (true_or_false (any_below n q))

-- ---- 7

module _ (w : ℕ) (ws : ℕ → ℕ) where
  op_right : (o : Op) → op_widths o w ws ≡ true → OpWidths o w ws
  op_right (Constant c) e = tt
  op_right Not e = eqb-true e
  op_right And e = (eqb-true (and_left (eqb (ws 0) w) (eqb (ws 1) w) e), eqb-true (and_right (eqb (ws 0) w) (eqb (ws 1) w) e))
  op_right Or e = (eqb-true (and_left (eqb (ws 0) w) (eqb (ws 1) w) e), eqb-true (and_right (eqb (ws 0) w) (eqb (ws 1) w) e))
  op_right Xor e = (eqb-true (and_left (eqb (ws 0) w) (eqb (ws 1) w) e), eqb-true (and_right (eqb (ws 0) w) (eqb (ws 1) w) e))
  op_right Add e = (eqb-true (and_left (eqb (ws 0) w) (eqb (ws 1) w) e), eqb-true (and_right (eqb (ws 0) w) (eqb (ws 1) w) e))
  op_right Subtract e = (eqb-true (and_left (eqb (ws 0) w) (eqb (ws 1) w) e), eqb-true (and_right (eqb (ws 0) w) (eqb (ws 1) w) e))
  op_right Equal e = (eqb-true (and_left (eqb (ws 0) (ws 1)) (eqb w 1) e), eqb-true (and_right (eqb (ws 0) (ws 1)) (eqb w 1) e))
  op_right Less e = (eqb-true (and_left (eqb (ws 0) (ws 1)) (eqb w 1) e), eqb-true (and_right (eqb (ws 0) (ws 1)) (eqb w 1) e))
  op_right Choose e =
      let r = and_right (eqb (ws 0) 1) (eqb (ws 1) w && eqb (ws 2) w) e in
      (eqb-true (and_left (eqb (ws 0) 1) (eqb (ws 1) w && eqb (ws 2) w) e), eqb-true (and_left (eqb (ws 1) w) (eqb (ws 2) w) r), eqb-true (and_right (eqb (ws 1) w) (eqb (ws 2) w) r))
  op_right (Part b) e = leb→le (b + w) (ws 0) (true→T e)
  op_right Join e = eqb-true e

  right_op : (o : Op) → OpWidths o w ws → op_widths o w ws ≡ true
  right_op (Constant c) r = refl
  right_op Not r = eqb_from r
  right_op And r = both (eqb (ws 0) w) (eqb (ws 1) w) (eqb_from r.0) (eqb_from r.1)
  right_op Or r = both (eqb (ws 0) w) (eqb (ws 1) w) (eqb_from r.0) (eqb_from r.1)
  right_op Xor r = both (eqb (ws 0) w) (eqb (ws 1) w) (eqb_from r.0) (eqb_from r.1)
  right_op Add r = both (eqb (ws 0) w) (eqb (ws 1) w) (eqb_from r.0) (eqb_from r.1)
  right_op Subtract r = both (eqb (ws 0) w) (eqb (ws 1) w) (eqb_from r.0) (eqb_from r.1)
  right_op Equal r = both (eqb (ws 0) (ws 1)) (eqb w 1) (eqb_from r.0) (eqb_from r.1)
  right_op Less r = both (eqb (ws 0) (ws 1)) (eqb w 1) (eqb_from r.0) (eqb_from r.1)
  right_op Choose r = both (eqb (ws 0) 1) (eqb (ws 1) w && eqb (ws 2) w) (eqb_from r.0) (both (eqb (ws 1) w) (eqb (ws 2) w) (eqb_from r.1) (eqb_from r.2))
  right_op (Part b) r = T→true (le→leb (b + w) (ws 0) r)
  right_op Join r = eqb_from r

  memory_right_lem : (t : Table) (m : Memory) → memory_right t m w ws ≡ true → MemoryWidths t m w ws
  memory_right_lem t m e = (eqb-true (and_left (eqb (ws 0) t.bits) (eqb w t.wide) e), eqb-true (and_right (eqb (ws 0) t.bits) (eqb w t.wide) e))

  right_memory : (t : Table) (m : Memory) → MemoryWidths t m w ws → memory_right t m w ws ≡ true
  right_memory t m r = both (eqb (ws 0) t.bits) (eqb w t.wide) (eqb_from r.0) (eqb_from r.1)

  widths_right_lem : (ts : List Table) (e : Element) → widths_right ts e w ws ≡ true → ElementWidths ts e w ws
  widths_right_lem ts Input e = tt
  widths_right_lem ts Output e = eqb-true e
  widths_right_lem ts (Register r) e = eqb-true e
  widths_right_lem ts (Async m) e = memory_right_lem (table_in ts (table_no m)) m e
  widths_right_lem ts (Clocked m r) e = memory_right_lem (table_in ts (table_no m)) m e
  widths_right_lem ts (Gate o) e = op_right o e

  right_widths : (ts : List Table) (e : Element) → ElementWidths ts e w ws → widths_right ts e w ws ≡ true
  right_widths ts Input r = refl
  right_widths ts Output r = eqb_from r
  right_widths ts (Register q) r = eqb_from r
  right_widths ts (Async m) r = right_memory (table_in ts (table_no m)) m r
  right_widths ts (Clocked m q) r = right_memory (table_in ts (table_no m)) m r
  right_widths ts (Gate o) r = right_op o r

table_there_lem : (ts : List Table) (e : Element) → table_there ts e ≡ true → HasTable ts e
table_there_lem ts Input h = tt
table_there_lem ts Output h = tt
table_there_lem ts (Register r) h = tt
table_there_lem ts (Async m) h = ltb→lt (table_no m) (length ts) (true→T h)
table_there_lem ts (Clocked m r) h = ltb→lt (table_no m) (length ts) (true→T h)
table_there_lem ts (Gate o) h = tt

there_table : (ts : List Table) (e : Element) → HasTable ts e → table_there ts e ≡ true
there_table ts Input h = refl
there_table ts Output h = refl
there_table ts (Register r) h = refl
there_table ts (Async m) h = T→true (lt→ltb (table_no m) (length ts) h)
there_table ts (Clocked m r) h = T→true (lt→ltb (table_no m) (length ts) h)
there_table ts (Gate o) h = refl

-- ---- a verdict

pub refuses_not : {a b : ℕ} → Refuses a b ≡ Fine → ⊥
refuses_not e = let z : ◌≡◌ {A = ℕ} 0 1 = cc in omega arith

-- ---- checks that go on to others

pub both_fine : (v w : Verdict) → onward v w ≡ Fine → (v ≡ Fine) × (w ≡ Fine)
both_fine Fine w e = (refl, e)
both_fine (Refuses k p) w e = absurd (refuses_not e)

pub first_or_next : (v w : Verdict) {k p : ℕ} → onward v w ≡ Refuses k p → (v ≡ Refuses k p) ⊎ ((v ≡ Fine) × (w ≡ Refuses k p))
first_or_next Fine w e = inr (refl, e)
first_or_next (Refuses m q) w e = inl e

-- ---- a list of stages

-- nothing is bad
abbrev pub Clear : List Stage → Type 0
Clear [] = Unit {0}
Clear (s ∷ l) = ((v : ℕ) → v < s.over → s.bad v ≡ false) × Clear l

pub fine_clear : (l : List Stage) → verdict l ≡ Fine → Clear l
unfolding verdict
fine_clear [] e = tt
fine_clear (s ∷ l) e =
    ⊎_elim (λ (t : ltb (lowest s.over s.bad) s.over ≡ true). absurd (refuses_not (rw (t, verdict) at e)))
    (λ (t : ltb (lowest s.over s.bad) s.over ≡ false). (lowest_none s.over s.bad t, fine_clear l (rw (t, verdict) at e))) (true_or_false (ltb (lowest s.over s.bad) s.over))

pub clear_fine : (l : List Stage) → Clear l → verdict l ≡ Fine
unfolding verdict
clear_fine [] c = refl
clear_fine (s ∷ l) c = let t : ltb (lowest s.over s.bad) s.over ≡ false = lowest_all s.over s.bad c.0 in rw (t, verdict) (clear_fine l c.1)

module _ (N : Net) where
  source_test : (v : ℕ) → bad_source N v ≡ false → SourcesRight N v
  unfolding bad_source
  source_test v e =
      let a = not (table_there N.tables (element_at N v)) in
      let b = any_below (operands (element_at N v)) (λ p. not (ltb (source N v p) (size N)) || is_output (element_at N (source N v p))) in (
        table_there_lem N.tables (element_at N v) (not-true (table_there N.tables (element_at N v)) (or_left a b e)),
        λ p q. let t = any_below_none (operands (element_at N v)) (λ j. not (ltb (source N v j) (size N)) || is_output (element_at N (source N v j))) (or_right a b e) p q in (
          ltb→lt (source N v p) (size N) (true→T (not-true (ltb (source N v p) (size N)) (or_left (not (ltb (source N v p) (size N))) (is_output (element_at N (source N v p))) t))),
          or_right (not (ltb (source N v p) (size N))) (is_output (element_at N (source N v p))) t,
        ),
      )

  test_source : (v : ℕ) → SourcesRight N v → bad_source N v ≡ false
  unfolding bad_source
  test_source v (t, h) =
      neither (not (table_there N.tables (element_at N v))) (any_below (operands (element_at N v)) (λ p. not (ltb (source N v p) (size N)) || is_output (element_at N (source N v p))))
      (not-false (table_there N.tables (element_at N v)) (there_table N.tables (element_at N v) t))
      (none_below (operands (element_at N v)) (λ p. not (ltb (source N v p) (size N)) || is_output (element_at N (source N v p)))
      (λ p q. neither (not (ltb (source N v p) (size N))) (is_output (element_at N (source N v p))) (not-false (ltb (source N v p) (size N)) (T→true (lt→ltb (source N v p) (size N) (h p q).0))) (h p q).1))

  unread_test : (v : ℕ) → unread N v ≡ false → HasReader N v
  unfolding unread reads_test
  unread_test v e i o =
      let t : not (any_below (size N) (λ x. reads_test N x v)) ≡ false = rw o at (rw i at e) in
      let r = any_below_elim (size N) (λ x. reads_test N x v) (not-true (any_below (size N) (λ x. reads_test N x v)) t) in
      let s = any_below_elim (operands (element_at N r.0)) (λ p. eqb (source N r.0 p) v) r.2 in
      (r.0, record { operand = s.0; inside = r.1; used = s.1; from = eqb-true s.2 })

  test_unread : (v : ℕ) → HasReader N v → unread N v ≡ false
  unfolding unread reads_test
  test_unread v h =
      ⊎_elim (λ i. rw i refl)
      (λ i. ⊎_elim (λ o. rw i (rw o refl)) (λ o. rw i (rw o (not-false (any_below (size N) (λ x. reads_test N x v)) (read_by (h i o))))) (true_or_false (is_output (element_at N v))))
      (true_or_false (is_input (element_at N v)))
    where
      read_by : (x : ℕ) × Reads N x v → any_below (size N) (λ x. reads_test N x v) ≡ true
      read_by (x, r) = any_below_intro (size N) (λ y. reads_test N y v) x r.inside (any_below_intro (operands (element_at N x)) (λ p. eqb (source N x p) v) r.operand r.used (eqb_from r.from))

  -- ---- the tests of 6, 7, 8 and 17 are their rules

  pub six_is : (v : ℕ) → bad_source N v ≡ false ↔ SourcesRight N v
  six_is v = (source_test v, test_source v)

  pub seven_is : (v : ℕ) → bad_width N v ≡ false ↔ WidthsRight N v
  unfolding bad_width
  seven_is v = (
    λ t. widths_right_lem (width_at N v) (λ p. width_at N (source N v p)) N.tables (element_at N v) (not-true _ t),
    λ r. not-false _ (right_widths (width_at N v) (λ p. width_at N (source N v p)) N.tables (element_at N v) r),
  )

  pub eight_is : (v : ℕ) → unread N v ≡ false ↔ HasReader N v
  eight_is v = (unread_test v, test_unread v)

  pub seventeen_is : (m : ℕ) → unread_table N m ≡ false ↔ TableHasReader N m
  unfolding unread_table table_in_use
  seventeen_is m = (
    λ t. any_below_elim (size N) (λ v. reads_table (element_at N v) m) (not-true _ t),
    λ (v, h, r). not-false _ (any_below_intro (size N) (λ x. reads_table (element_at N x) m) v h r),
  )

  -- the verdict, stage by stage
  record Stages : Type 0 where
    six : (v : ℕ) → v < size N → bad_source N v ≡ false
    seven : (v : ℕ) → v < size N → bad_width N v ≡ false
    eight : (v : ℕ) → v < size N → unread N v ≡ false
    seventeen : (m : ℕ) → m < length N.tables → unread_table N m ≡ false
    nine : (v : ℕ) → v < size N → in_loop N v ≡ false
    ten : (v : ℕ) → v < size N → in_ring N v ≡ false

  stages : reader_verdict N ≡ Fine → Stages
  unfolding reader_verdict reader_stages
  stages e =
      let c : Clear (reader_stages N) = fine_clear (reader_stages N) e in
      record { six = c.0; seven = c.1.0; eight = c.1.1.0; seventeen = c.1.1.1.0; nine = c.1.1.1.1.0; ten = c.1.1.1.1.1.0 }

  staged : Stages → reader_verdict N ≡ Fine
  unfolding reader_verdict reader_stages
  staged s = clear_fine (reader_stages N) (s.six, (s.seven, (s.eight, (s.seventeen, (s.nine, (s.ten, tt))))))

  -- what check 6 leaves
  pub six_sourced : ((v : ℕ) → v < size N → bad_source N v ≡ false) → Sourced N
  unfolding Sourced
  six_sourced six v p h q = ((source_test v (six v h)).1 p q).0

  stages_sourced : Stages → Sourced N
  stages_sourced s = six_sourced s.six

  through_inside : (K : Class) {u v : ℕ} → Through K N u v → v < size N
  through_inside K (once r) = r.inside
  through_inside K (then w r) = r.inside

  -- what the reader takes is well formed
  pub reader_fine : FieldsFit N → reader_verdict N ≡ Fine → WellFormed N
  unfolding in_loop in_ring
  reader_fine fit e =
      let s : Stages = stages e in
      record {
        fields = fit;
        sourced = stages_sourced s;
        outputs_unread = λ v p h q. ((source_test v (s.six v h)).1 p q).1;
        has_table = λ v h. (source_test v (s.six v h)).0;
        widths = λ v h. (seven_is v).0 (s.seven v h);
        read = λ v h. (eight_is v).0 (s.eight v h);
        no_loop = λ v w. let h : v < size N = through_inside in_clock w in true≢false (sym ((reaches_itself_iff in_clock N (stages_sourced s) v h).1 w) ∙ s.nine v h);
        no_ring = λ v w. let h : v < size N = through_inside in_registers w in true≢false (sym ((reaches_itself_iff in_registers N (stages_sourced s) v h).1 w) ∙ s.ten v h);
      }

  -- and reads its tables
  pub reader_tables : reader_verdict N ≡ Fine → TablesRead N
  reader_tables e m h = (seventeen_is m).0 ((stages e).seventeen m h)

  -- and what is well formed and reads its tables the reader takes
  pub fine_reader : WellFormed N → TablesRead N → reader_verdict N ≡ Fine
  unfolding in_loop in_ring Sourced
  fine_reader wf tables = staged (record {
    six = λ v h. (six_is v).1 (wf.has_table v h, λ p q. (wf.sourced v p h q, wf.outputs_unread v p h q));
    seven = λ v h. (seven_is v).1 (wf.widths v h);
    eight = λ v h. (eight_is v).1 (wf.read v h);
    seventeen = λ m h. (seventeen_is m).1 (tables m h);
    nine = λ v h. ⊎_elim (λ t. absurd (wf.no_loop v ((reaches_itself_iff in_clock N wf.sourced v h).0 t))) (λ t. t) (true_or_false (reaches_itself in_clock N v));
    ten = λ v h. ⊎_elim (λ t. absurd (wf.no_ring v ((reaches_itself_iff in_registers N wf.sourced v h).0 t))) (λ t. t) (true_or_false (reaches_itself in_registers N v));
  })
