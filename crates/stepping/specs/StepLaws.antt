-- Lines are done one after the other. Assumes nothing.
use Rattle.std.specs.Prelude.{◌≡◌, true, false, cond, List, ℕ, zero, suc, ◌+◌, ◌-◌, ◌^◌, ◌≤◌, ◌<◌, length, set, eqb}
use Rattle.std.proofs.Math.Path.{refl, sym, ap}
use Rattle.std.proofs.Common.{subst, ◌∙◌, ⊎_elim, length-set, get_or-set_same, get_or-set_other, lit<}
use Rattle.std.proofs.lemmas.Bool.{false≢true}
use native.Mathlib.Omega.{arith}
use Rattle.std.proofs.Math.ListN.{get_or}
use Rattle.std.proofs.Math.Pow.{pow_mono}
use Rattle.lists.specs.Paths.{pick}
use Rattle.lists.proofs.Paths.{off_eq}
use Rattle.lists.proofs.BelowLaws.{lt_or_le, lt-suc_split}
use Rattle.words.specs.declared.Op.{Op}
use Rattle.words.specs.declared.Op.TheVariants.{Constant, Not, And, Or, Xor, Add, Subtract, Equal, Less, Choose, Part, Join}
use Rattle.words.specs.Gates.{operate, operands_of}
use Rattle.gates.specs.Gate.{gate_word}
use Rattle.netlist.specs.declared.Element.{Element}
use Rattle.netlist.specs.declared.Element.TheVariants.{Input, Output, Register, Async, Clocked, Gate}
use Rattle.netlist.specs.Net.{no_table, spelled, Net, element_at, width_at, source, operands, within_clock, within_few, contents_at, is_input, holds_word, is_memory, Sourced}
use Rattle.netlist.specs.Checks.{ElementWidths, WellFormed}
use Rattle.circuit.specs.Code.{code_of, op_by, element_by, number_or, table_or}
use Rattle.circuit.proofs.CodeLaws.{coded, code_below}
use Rattle.behaviour.proofs.Fits.{contents_fit}
use Rattle.behaviour.proofs.ClockFits.{now_fits}
use Rattle.evaluate.specs.Clock.{loaded}
use Rattle.evaluate.specs.Settling.{now_same}
use Rattle.evaluate.specs.Coded.{named, async_memory, async_gives, gate-gives, memory_asks, memory_gives, part_low}
use Rattle.schedule.specs.declared.Sizes.{Sizes}
use Rattle.schedule.specs.Lines.{schedule_words, part, code_on, run_end, width_on, place_on, held_on, node_on, asked, asked_by, is_inner, InnerLine, Scheduled}
use Rattle.stepping.specs.Step.{line_word, FitTo, Stepped, gate_on, GateAsks, chosen_on, OnLine, OnRun}

-- ---- what gives its word within the clock

pub inner_new : (e : Element) → is_inner e ≡ true → (loaded e ≡ false) × (is_input e ≡ false) × (holds_word e ≡ false)
inner_new Input h = absurd (false≢true h)
inner_new Output h = absurd (false≢true h)
inner_new (Register r) h = absurd (false≢true h)
inner_new (Async m) h = (refl, refl, refl)
inner_new (Clocked m r) h = absurd (false≢true h)
inner_new (Gate o) h = (refl, refl, refl)

inner_code : (e : Element) → is_inner e ≡ true → (code_of e ≡ 3 → ⊥) → 8 ≤ code_of e
inner_code Input h d = absurd (false≢true h)
inner_code Output h d = absurd (false≢true h)
inner_code (Register r) h d = absurd (false≢true h)
inner_code (Async m) h d = absurd (d refl)
inner_code (Clocked m r) h d = absurd (false≢true h)
inner_code (Gate o) h d = omega arith

gate_plain : (e : Element) → 8 ≤ code_of e → is_memory e ≡ false
gate_plain Input h = refl
gate_plain Output h = refl
gate_plain (Register r) h = refl
gate_plain (Async m) h = absurd (omega arith)
gate_plain (Clocked m r) h = absurd (omega arith)
gate_plain (Gate o) h = refl

-- past the other codes there is the join's
past : {c k : ℕ} → k ≤ c → (c ≡ k → ⊥) → k + 1 ≤ c
past h d = omega arith

pub only_join : {c : ℕ} → (8 ≤ c) × (c < 20) → (c ≡ 8 → ⊥) → (c ≡ 9 → ⊥) → (c ≡ 10 → ⊥) → (c ≡ 11 → ⊥) → (c ≡ 12 → ⊥) → (c ≡ 13 → ⊥) → (c ≡ 14 → ⊥) → (c ≡ 15 → ⊥)
    → (c ≡ 16 → ⊥) → (c ≡ 17 → ⊥) → (c ≡ 18 → ⊥) → c ≡ 19
only_join (h, few) a b c d e f g i j k l = let m = past (past (past (past (past (past (past (past (past (past (past h a) b) c) d) e) f) g) i) j) k) l in omega arith

-- ---- an operation asks for one width

asked-gate : (o : Op) (own low a b c : ℕ) → gate_word o (asked o own low) (asked o own low) a b c ≡ gate_word o own low a b c
unfolding operate
asked-gate (Constant k) own low a b c = refl
asked-gate Not own low a b c = refl
asked-gate And own low a b c = refl
asked-gate Or own low a b c = refl
asked-gate Xor own low a b c = refl
asked-gate Add own low a b c = refl
asked-gate Subtract own low a b c = refl
asked-gate Equal own low a b c = refl
asked-gate Less own low a b c = refl
asked-gate Choose own low a b c = refl
asked-gate (Part k) own low a b c = refl
asked-gate Join own low a b c = refl

asked_narrow : (o : Op) (own low : ℕ) → own ≤ 16 → (1 < operands_of o → low ≤ 16) → asked o own low ≤ 16
asked_narrow (Constant b) own low h k = h
asked_narrow Not own low h k = h
asked_narrow And own low h k = h
asked_narrow Or own low h k = h
asked_narrow Xor own low h k = h
asked_narrow Add own low h k = h
asked_narrow Subtract own low h k = h
asked_narrow Equal own low h k = h
asked_narrow Less own low h k = h
asked_narrow Choose own low h k = h
asked_narrow (Part b) own low h k = h
asked_narrow Join own low h k = k (lit< tt)

-- ---- a line

module _ {N : Net} {l : List ℕ} {i : ℕ} (t : InnerLine N l i) where
  abbrev v : ℕ
  v = node_on l i

  abbrev e : Element
  e = element_at N v

  abbrev wide : ℕ → ℕ
  wide p = width_at N (source N v p)

  read_low : (p : ℕ) → p < within_clock e → (place_on l i p < i) × (node_on l (place_on l i p) ≡ source N v p)
  read_low p q = t.behind p (omega (arith, within_few e))

  -- it depends on the words before it alone
  pub line_same : (ws us : List ℕ) → ((j : ℕ) → j < i → get_or ws j 0 ≡ get_or us j 0) → line_word N l ws i ≡ line_word N l us i
  unfolding line_word
  line_same ws us h =
      now_same (contents_at N v) (width_at N v) wide 0 0 0 (λ p. get_or ws (place_on l i p) 0) (λ p. get_or us (place_on l i p) 0) e (inner_new e t.inner).0
      (λ p q. h (place_on l i p) (read_low p q).0)

  module _ (ws : List ℕ) (fit : FitTo N l ws i) where
    pub operand_fits : (p : ℕ) → p < within_clock e → get_or ws (place_on l i p) 0 < 2 ^ width_at N (source N v p)
    operand_fits p q = subst (λ (u : ℕ). get_or ws (place_on l i p) 0 < 2 ^ width_at N u) (read_low p q).1 (fit (place_on l i p) (read_low p q).0)

    pub line_fits : WellFormed N → line_word N l ws i < 2 ^ width_at N (node_on l i)
    unfolding line_word
    line_fits wf =
        let h = t.line.inside in
        let n = inner_new e t.inner in
        now_fits N.tables (contents_at N v) (width_at N v) wide (λ p. get_or ws (place_on l i p) 0) 0 0 e (wf.widths v h) (wf.fields.word_fits v h) (contents_fit N wf v h)
        (λ y. absurd (false≢true (sym n.1 ∙ y))) (λ y. absurd (false≢true (sym n.2 ∙ y))) operand_fits

  -- which operation it is, by its code
  pub told : {c : ℕ} (k : ℕ) (o : Op) → c ≡ code_on l i → c ≡ k → 8 ≤ k → o ≡ op_by (k - 8) (held_on l i) → Gate o ≡ element_at N (node_on l i)
  unfolding element_by
  told {c} k o a b h r =
      let q : k ≡ code_of e = sym b ∙ a ∙ t.line.coded in
      let x : held_on l i ≡ number_or (held_on l i) e = t.line.held.number (gate_plain e (omega arith)) in
      ap Gate r
      ∙ off_eq _ _ k 0 (λ d. omega arith) (off_eq _ _ k 1 (λ d. omega arith) (off_eq _ _ k 2 (λ d. omega arith) (off_eq _ _ k 3 (λ d. omega arith) (off_eq _ _ k 4 (λ d. omega arith) refl))))
      ∙ named e q x

  pub last_code : {c : ℕ} → c ≡ code_on l i → (c ≡ 3 → ⊥) → (8 ≤ c) × (c < 20)
  last_code a d =
      let q = a ∙ t.line.coded in
      (omega (arith, inner_code e t.inner (λ y. d (q ∙ y))), omega (arith, code_below (coded e)))

  module _ {o : Op} (is : Gate o ≡ element_at N (node_on l i)) (ws : List ℕ) where
    width_is : width_on l i ≡ asked o (width_at N v) (wide 1)
    width_is = t.line.wide ∙ ap (λ (y : Element). asked_by y (width_at N v) (wide 1)) (sym is)

    -- THE LAW of a gate's line
    pub gate_line : gate_on l o i ws ≡ line_word N l ws i
    unfolding line_word
    gate_line =
        ap (λ (w : ℕ). gate_word o w w (get_or ws (place_on l i 0) 0) (get_or ws (place_on l i 1) 0) (get_or ws (place_on l i 2) 0)) width_is
        ∙ asked-gate o (width_at N v) (wide 1) (get_or ws (place_on l i 0) 0) (get_or ws (place_on l i 1) 0) (get_or ws (place_on l i 2) 0)
        ∙ gate-gives (contents_at N v) (width_at N v) wide 0 (λ p. get_or ws (place_on l i p) 0) is

    pub gate_asks : WellFormed N → FitTo N l ws i → GateAsks l o i ws
    unfolding Sourced
    gate_asks wf fit = record {
      near = t.line.near;
      narrow = omega (
        arith,
        width_is,
        asked_narrow o (width_at N v) (wide 1) (wf.fields.width_high v t.line.inside)
            (λ q. wf.fields.width_high (source N v 1) (wf.sourced v 1 t.line.inside (subst (λ (y : Element). 1 < operands y) is q))),
      );
      fits =
          let most : 2 ^ width_at N v ≤ 2 ^ 16 = pow_mono (wf.fields.width_high v t.line.inside) in
          omega (arith, gate_line, line_fits ws fit wf);
    }

-- an asynchronous ROM: x is where its address stands, h its table's number, a the address
module _ {N : Net} {l ws : List ℕ} {i x h a : ℕ} (wf : WellFormed N) (t : OnLine N l ws i) (is : code_on l i ≡ 3) (p : x ≡ place_on l i 0) (q : h ≡ held_on l i) (r : a ≡ get_or ws x 0) where
  rom : (is_memory (element_at N (node_on l i)) ≡ true) × (within_clock (element_at N (node_on l i)) ≡ 1)
  rom = async_memory (element_at N (node_on l i)) (sym t.inner.line.coded ∙ is)

  table : h ≡ table_or h (element_at N (node_on l i))
  table = subst (λ (k : ℕ). k ≡ table_or k (element_at N (node_on l i))) (sym q) (t.inner.line.held.table rom.0)

  address : a ≡ get_or ws (place_on l i 0) 0
  address = r ∙ ap (λ (k : ℕ). get_or ws k 0) p

  pub rom_asks : (h < length N.tables) × (a < 2 ^ (get_or N.tables h no_table).bits)
  rom_asks = memory_asks N (node_on l i) wf t.inner.line.inside rom.0 table address (operand_fits t.inner ws t.fit 0 (omega (arith, rom.1)))

  pub rom_line : {w : ℕ} → w ≡ get_or (spelled (get_or N.tables h no_table)) a 0 → w ≡ line_word N l ws i
  unfolding line_word
  rom_line e =
      memory_gives N (node_on l i) wf t.inner.line.inside rom.0 table address e
      ∙ async_gives (contents_at N (node_on l i)) (width_at N (node_on l i)) (λ u. width_at N (source N (node_on l i) u)) 0 (λ u. get_or ws (place_on l i u) 0) (element_at N (node_on l i))
      (sym t.inner.line.coded ∙ is)

-- what is read of a line and for it
pub gate-read : (l : List ℕ) (i : ℕ) {w x y z : ℕ} (o : Op) (ws : List ℕ) → w ≡ width_on l i → x ≡ place_on l i 0 → y ≡ place_on l i 1 → z ≡ place_on l i 2
    → gate_word o w w (get_or ws x 0) (get_or ws y 0) (get_or ws z 0) ≡ gate_on l o i ws
gate-read l i o ws a b c d = λ j. gate_word o (a j) (a j) (get_or ws (b j) 0) (get_or ws (c j) 0) (get_or ws (d j) 0)

-- an operation by its code, on a line that has what it needs
module _ {N : Net} {l ws : List ℕ} {i : ℕ} (wf : WellFormed N) (t : OnLine N l ws i) {c : ℕ} (k : ℕ) (o : Op) (a : c ≡ code_on l i) (b : c ≡ k) (h : 8 ≤ k)
    (r : o ≡ op_by (k - 8) (held_on l i)) where
  pub line_asks : (schedule_words ≤ length l) × (i < 2048) × (2048 ≤ length ws) × GateAsks l o i ws
  line_asks = (t.room, t.few, t.space, gate_asks t.inner (told t.inner k o a b h r) ws wf t.fit)

  pub line_gives : {x : ℕ} → x ≡ gate_on l o i ws → x ≡ line_word N l ws i
  line_gives e = e ∙ gate_line t.inner (told t.inner k o a b h r) ws

-- the operand that a selector names
chosen_is : (l : List ℕ) (i : ℕ) (ws : List ℕ) → get_or ws (place_on l i 0) 0 < 2 → chosen_on l i ws ≡ gate_on l Choose i ws
unfolding operate
chosen_is l i ws h = by_selector (get_or ws (place_on l i 0) 0) h
  where
    by_selector : (s : ℕ) → s < 2 → get_or ws (part l i (5 - s)) 0 ≡ cond (eqb s 1) (get_or ws (place_on l i 1) 0) (get_or ws (place_on l i 2) 0)
    by_selector zero k = refl
    by_selector (suc zero) k = refl
    by_selector (suc (suc s)) k = absurd (omega arith)

module _ {N : Net} {l ws : List ℕ} {i : ℕ} (wf : WellFormed N) (t : OnLine N l ws i) {c : ℕ} (a : c ≡ code_on l i) where
  -- a choose gate's selector has one bit
  module _ (h : c ≡ 17) where
    is_choose : Gate Choose ≡ element_at N (node_on l i)
    unfolding op_by pick
    is_choose = told t.inner 17 Choose a h (omega arith) refl

    pub choose_asks : (schedule_words ≤ length l) × (i < 2048) × (2048 ≤ length ws) × ((p : ℕ) → p < 3 → place_on l i p < 2048) × (get_or ws (place_on l i 0) 0 < 2)
    choose_asks =
        let v = node_on l i in
        let one_bit : width_at N (source N v 0) ≡ 1
        = (subst (λ (y : Element). ElementWidths N.tables y (width_at N v) (λ p. width_at N (source N v p))) (sym is_choose) (wf.widths v t.inner.line.inside)).0 in
        let low : get_or ws (place_on l i 0) 0 < 2 ^ width_at N (source N v 0) = operand_fits t.inner ws t.fit 0 (subst (λ (y : Element). 0 < within_clock y) is_choose (lit< tt)) in
        (t.room, t.few, t.space, t.inner.line.near, subst (λ (w : ℕ). get_or ws (place_on l i 0) 0 < 2 ^ w) one_bit low)

    pub choose_gives : {x : ℕ} → x ≡ chosen_on l i ws → x ≡ line_word N l ws i
    choose_gives e = e ∙ chosen_is l i ws choose_asks.4 ∙ gate_line t.inner is_choose ws

  -- the lowest bit of a part is a bit of its source
  pub part_narrow : c ≡ 18 → held_on l i < 256
  unfolding op_by pick Sourced
  part_narrow h =
      let v = node_on l i in
      let is = told t.inner 18 (Part (held_on l i)) a h (omega arith) refl in
      part_low N v wf t.inner.line.inside (wf.sourced v 0 t.inner.line.inside (subst (λ (y : Element). 0 < operands y) is (lit< tt))) is

-- ---- one line after the other

pub stepped_none : {N : Net} {l ws : List ℕ} {i : ℕ} → FitTo N l ws i → Stepped N l i i ws ws
stepped_none f = record { kept = refl; others = λ j h. refl; each = λ j a b. absurd (omega arith); fit = f }

pub stepped_at : {N : Net} {l : List ℕ} {from i to : ℕ} {before after : List ℕ} → Stepped N l from i before after → i ≡ to → Stepped N l from to before after
stepped_at {N} {l} {from} {before = b} {after = a} s e = subst (λ (k : ℕ). Stepped N l from k b a) e s

module _ {N : Net} {l : List ℕ} {from i : ℕ} {before after : List ℕ} (s : Stepped N l from i before after)
    (inner : (j : ℕ) → from ≤ j → j < i → InnerLine N l j) where
  -- words that agree before i are done as well
  module _ (ws : List ℕ) (same : (j : ℕ) → j < i → get_or ws j 0 ≡ get_or after j 0) where
    still : (j : ℕ) → from ≤ j → j < i → get_or ws j 0 ≡ line_word N l ws j
    still j a b = same j b ∙ s.each j a b ∙ line_same (inner j a b) after ws (λ k c. sym (same k (omega arith)))

    still_fit : FitTo N l ws i
    still_fit j h = rw (same j h) (s.fit j h)

  -- line i is done
  pub stepped_more : from ≤ i → InnerLine N l i → i < length after → {x : ℕ} → x ≡ line_word N l after i → x < 2 ^ width_at N (node_on l i)
      → Stepped N l from (i + 1) before (set after i x)
  stepped_more low t room {x} e f = record {
    kept = length-set after i x ∙ s.kept;
    others = λ j h. untouched j (omega arith) ∙ s.others j h;
    each = λ j a b. ⊎_elim (still (set after i x) untouched j a) (λ k. here j k) (lt-suc_split (let c : j < suc i = omega arith in c));
    fit = λ j b. ⊎_elim (still_fit (set after i x) untouched j) (λ k. fits j k) (lt-suc_split (let c : j < suc i = omega arith in c));
  }
    where
      untouched : (j : ℕ) → j < i → get_or (set after i x) j 0 ≡ get_or after j 0
      untouched j h = get_or-set_other after i j x 0 (λ q. omega arith)

      own : get_or (set after i x) i 0 ≡ x
      own = get_or-set_same after i x 0 room

      here : (j : ℕ) → j ≡ i → get_or (set after i x) j 0 ≡ line_word N l (set after i x) j
      here j k = subst (λ (u : ℕ). get_or (set after i x) u 0 ≡ line_word N l (set after i x) u) (sym k) (own ∙ e ∙ line_same t after (set after i x) (λ u c. sym (untouched u c)))

      fits : (j : ℕ) → j ≡ i → get_or (set after i x) j 0 < 2 ^ width_at N (node_on l j)
      fits j k = subst (λ (u : ℕ). get_or (set after i x) u 0 < 2 ^ width_at N (node_on l u)) (sym k) (rw own f)

  -- and then the lines from i on
  pub stepped_then : {to : ℕ} {last : List ℕ} → from ≤ i → Stepped N l i to after last → Stepped N l from to before last
  stepped_then {to} {last} low r = record {
    kept = r.kept ∙ s.kept;
    others = λ j h. r.others j (omega arith) ∙ s.others j h;
    each = λ j a b. ⊎_elim (still last r.others j a) (λ k. r.each j k b) (lt_or_le j i);
    fit = r.fit;
  }

-- a run by its first line's code
pub run_coded : {N : Net} {l ws : List ℕ} {c k from to : ℕ} → OnRun N l ws c from to → c ≡ k → OnRun N l ws k from to
run_coded {N} {l} {ws} {from = from} {to = to} t e = subst (λ (k : ℕ). OnRun N l ws k from to) e t

-- the run that begins at a line of a schedule
pub scheduled_run : {N : Net} {l : List ℕ} {z : Sizes} (ws : List ℕ) {i e : ℕ} → Scheduled N l z → z.inputs + z.held ≤ i → i < z.lines → e ≡ run_end l i → 2048 ≤ length ws
    → FitTo N l ws i → (i < e) × (e ≤ z.lines) × OnRun N l ws (code_on l i) i e
scheduled_run {N} {l} {z} ws {i} t low h is space fit =
    let r = t.runs i h in
    rw is (
      r.0.some,
      r.1,
      record {
        room = t.room;
        low = omega (arith, r.0.some);
        few = omega (arith, r.1, t.few);
        space = space;
        lines = λ j a b. (t.inner_lines j (omega arith) (omega (arith, r.1)), r.0.alike j a b);
        fit = fit;
      },
    )
