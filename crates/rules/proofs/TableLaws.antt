-- Check 17, over plain values. Assumes nothing.
use mathlib.Core.Path.{◌≡◌, refl, sym, ap, subst, ◌∙◌}
use mathlib.Core.Logic.{◌⊎◌, inl, inr, ⊎_elim}
use mathlib.Core.Bool.{Bool, true, false, not, cond, ◌&&◌, ◌||◌}
use mathlib.Core.List.{List}
use Prim.Native.Nat.{ℕ, zero, suc, ◌+◌, ◌-◌, ◌≤◌, ◌<◌}
use native.Mathlib.Omega.{arith}
use native.Mathlib.Numerals.{add-one}
use lib.ListN.{length, get_or, set, length-set}
use lib.Seq.{get_or-set_same, get_or-set_other}
use lib.Dec.{eqb}
use borrow.Author.Tests.{ne_eqb}
use Rattle.lists.specs.Lists.{any_below, one, count_below}
use Rattle.lists.proofs.BelowLaws.{true_or_false, lt_or_le, eqb-true, eqb_self, eqb_differ, any_below_intro, any_below_elim, bit_true, bit_false, one_le}
use Rattle.lists.proofs.SearchLaws.{count_same, count_one_more, count_less}
use Rattle.netlist.specs.Net.{Table, Net, size, element_at, is_async, is_clocked, is_memory, table_of}
use Rattle.netlist.specs.Checks.{HasTable, HasTables}
use Rattle.netlist.proofs.Memories.{memory_kinds, own-table, reads_only}
use Rattle.netlist.specs.Verdict.{reads_table, table_in_use, unread_table}
use Rattle.netlist.specs.declared.Element.{Element}
use Rattle.circuit.specs.Code.{table_or}
use Rattle.circuit.proofs.CodeLaws.{rom-table}
use Rattle.rules.specs.TableMarks.{Unmarked, TableMarks}
use Rattle.rules.proofs.ReaderLaws.{mark_at, one_of}

module _ (e : Element) {a b : ℕ} (p : a ≡ one (is_async e)) (q : b ≡ one (is_clocked e)) where
  kinds : a + b ≡ one (is_memory e)
  kinds = omega (arith, memory_kinds e)

  -- a ROM reads its table
  pub rom_reads : a + b ≡ 1 → {k : ℕ} → k ≡ table_or k e → (m : ℕ) → eqb k m ≡ reads_table e m
  rom_reads s t m =
      let rom = bit_true (is_memory e) (sym kinds ∙ s) in
      ap (λ (j : ℕ). eqb j m) (rom-table e rom t) ∙ sym (ap (λ (x : Bool). x && eqb (table_of e) m) rom)

  pub rom_small : a + b ≡ 1 → {k : ℕ} → k ≡ table_or k e → (ts : List Table) → HasTable ts e → length ts ≤ 16 → k ≤ 16
  rom_small s t ts there few = let rom = bit_true (is_memory e) (sym kinds ∙ s) in omega (arith, rom-table e rom t, own-table ts e there rom)

  -- no other node reads one
  pub none_reads : (a + b ≡ 1 → ⊥) → (m : ℕ) → m < 16 → eqb 16 m ≡ reads_table e m
  none_reads d m h = ne_eqb 16 m (λ z. omega arith) ∙ sym (ap (λ (x : Bool). x && eqb (table_of e) m) (bit_false (is_memory e) (λ s. d (kinds ∙ s))))

-- one of the first x nodes reads table m
abbrev read_before : Net → ℕ → ℕ → Bool
read_before N x m = any_below x (λ v. reads_table (element_at N v) m)

-- THE INVARIANT: marked are the tables that the first x nodes read, and the place behind them; `left` are not
pub record Marking (N : Net) (marks : List ℕ) (x left : ℕ) : Type 0 where
  pub room : 17 ≤ length marks
  pub each : (m : ℕ) → m < 16 → get_or marks m 0 ≡ one (read_before N x m)
  pub behind : get_or marks 16 0 ≡ 1
  pub few : length N.tables ≤ 16
  pub left_is : left + count_below (read_before N x) (length N.tables) ≡ length N.tables

pub marking_none : (N : Net) {marks : List ℕ} → Unmarked marks → length N.tables ≤ 16 → Marking N (set marks 16 1) 0 (length N.tables)
marking_none N {marks} u few = record {
  room = omega (arith, u.room, length-set marks 16 1);
  each = λ m h. get_or-set_other marks 16 m 1 0 (λ e. omega arith) ∙ u.none m (omega arith);
  behind = get_or-set_same marks 16 1 0 u.room;
  few = few;
  left_is = omega (arith, none_counted (length N.tables));
}
  where
    none_counted : (n : ℕ) → count_below (read_before N 0) n ≡ 0
    none_counted zero = refl
    none_counted (suc n) = omega (arith, none_counted n)

module _ (N : Net) {marks : List ℕ} {x left : ℕ} (t : Marking N marks x left) (has : HasTables N) (inside : x < size N)
    (k : ℕ) (reads : (m : ℕ) → m < 16 → eqb k m ≡ reads_table (element_at N x) m) (small : k ≤ 16) where
  abbrev n : ℕ
  n = length N.tables

  -- a place before 16 is a table's
  table_there_lem : k < 16 → k < n
  table_there_lem h =
      let (rom, own) = reads_only (element_at N x) k (sym (reads k h) ∙ eqb_self k) in
      subst (λ (m : ℕ). m < n) own (own-table N.tables (element_at N x) (has x inside) rom)

  -- one node more
  step : (m : ℕ) → m < 16 → read_before N (suc x) m ≡ (eqb k m || read_before N x m)
  step m h = ap (λ (b : Bool). b || read_before N x m) (sym (reads m h))

  more : {after : ℕ} → after + count_below (read_before N (suc x)) n ≡ n → Marking N (set marks k 1) (x + 1) after
  more {after} e = record {
    room = omega (arith, t.room, length-set marks k 1);
    each = λ m h.
        mark_at marks k m (omega (arith, t.room))
        ∙ ap (λ (b : Bool). cond b 1 (get_or marks m 0)) (reads m h)
        ∙ ap (cond (reads_table (element_at N x) m) 1) (t.each m h)
        ∙ one_of (reads_table (element_at N x) m) (read_before N x m)
        ∙ ap (λ (j : ℕ). one (read_before N j m)) (sym (add-one x));
    behind = mark_at marks k 16 t.room ∙ ap (cond (eqb k 16) 1) t.behind ∙ always (eqb k 16);
    few = t.few;
    left_is = ap (λ (j : ℕ). after + count_below (read_before N j) n) (add-one x) ∙ e;
  }
    where
      always : (b : Bool) → ◌≡◌ {A = ℕ} (cond b 1 1) 1
      always true = refl
      always false = refl

  module _ (fresh : get_or marks k 0 ≡ 0) where
    low : k < 16
    low = ⊎_elim (λ l. l) (λ l. let e : k ≡ 16 = omega arith in absurd (omega (arith, t.behind, ap (λ (j : ℕ). get_or marks j 0) e))) (lt_or_le k 16)

    unread_yet : read_before N x k ≡ false
    unread_yet = bit_false (read_before N x k) (λ s. omega (arith, t.each k low))

    fresh_some : 1 ≤ left
    fresh_some = omega (arith, t.left_is, count_less (read_before N x) n k (table_there_lem low) unread_yet)

    fresh_more : Marking N (set marks k 1) (x + 1) (left - 1)
    fresh_more =
        let c : count_below (read_before N (suc x)) n ≡ count_below (read_before N x) n + 1
        = count_one_more (read_before N x) (read_before N (suc x)) n k (table_there_lem low) unread_yet
        (step k low ∙ ap (λ (b : Bool). b || read_before N x k) (eqb_self k))
        (λ m h d. sym (step m (omega (arith, t.few)) ∙ ap (λ (b : Bool). b || read_before N x m) (ne_eqb k m (λ e. d (sym e))))) in
        more (omega (arith, t.left_is, fresh_some))

  module _ (marked : get_or marks k 0 ≡ 0 → ⊥) where
    read_already : (m : ℕ) → m < n → read_before N x m ≡ read_before N (suc x) m
    read_already m h =
        let l : m < 16 = omega (arith, t.few) in
        ⊎_elim
        (λ e.
        let d : get_or marks m 0 ≡ 0 → ⊥ = λ z. marked (ap (λ (j : ℕ). get_or marks j 0) (eqb-true e) ∙ z) in
        let r : read_before N x m ≡ true = bit_true (read_before N x m) (omega (arith, d, t.each m l, one_le (read_before N x m))) in
        r ∙ sym (step m l ∙ ap (λ (b : Bool). b || read_before N x m) e))
        (λ e. sym (step m l ∙ ap (λ (b : Bool). b || read_before N x m) e))
        (true_or_false (eqb k m))

    marked_more : Marking N (set marks k 1) (x + 1) left
    marked_more = more (omega (arith, t.left_is, count_same (read_before N x) (read_before N (suc x)) n read_already))

  pub marking_more : {new : ℕ} → new ≡ one (eqb (get_or marks k 0) 0) → (new ≤ left) × Marking N (set marks k 1) (x + 1) (left - new)
  marking_more {new} e = by_mark (true_or_false (eqb (get_or marks k 0) 0))
    where
      by_mark : (eqb (get_or marks k 0) 0 ≡ true) ⊎ (eqb (get_or marks k 0) 0 ≡ false) → (new ≤ left) × Marking N (set marks k 1) (x + 1) (left - new)
      by_mark (inl q) =
          let one-new : new ≡ 1 = e ∙ ap one q in
          let z = eqb-true q in
          (omega (arith, one-new, fresh_some z), subst (λ (j : ℕ). Marking N (set marks k 1) (x + 1) (left - j)) (sym one-new) (fresh_more z))
      by_mark (inr q) =
          let none-new : new ≡ 0 = e ∙ ap one q in
          let same : left ≡ left - new = omega (arith, none-new) in
          (omega (arith, none-new), subst (λ (j : ℕ). Marking N (set marks k 1) (x + 1) j) same (marked_more (eqb_differ q)))

-- none is left, or all nodes are looked at
module _ (N : Net) {marks : List ℕ} {x : ℕ} where
  pub all_marked : Marking N marks x 0 → x ≤ size N → TableMarks N marks
  unfolding table_in_use
  all_marked t h = record { room = t.room; each = λ m l. t.each m (omega (arith, t.few)) ∙ ap one (read m l ∙ sym (used m l)) }
    where
      read : (m : ℕ) → m < length N.tables → read_before N x m ≡ true
      read m l = ⊎_elim (λ r. r) (λ r. absurd (omega (arith, t.left_is, count_less (read_before N x) (length N.tables) m l r))) (true_or_false (read_before N x m))

      used : (m : ℕ) → m < length N.tables → any_below (size N) (λ v. reads_table (element_at N v) m) ≡ true
      used m l =
          let (v, i, r) = any_below_elim x (λ v. reads_table (element_at N v) m) (read m l) in
          any_below_intro (size N) (λ v. reads_table (element_at N v) m) v (omega arith) r

  pub nodes-done : {left : ℕ} → Marking N marks x left → x ≡ size N → TableMarks N marks
  unfolding table_in_use
  nodes-done t e = record { room = t.room; each = λ m l. t.each m (omega (arith, t.few)) ∙ ap (λ (j : ℕ). one (read_before N j m)) e }

-- what the marks tell
module _ (N : Net) {marks : List ℕ} (t : TableMarks N marks) {m : ℕ} (h : m < length N.tables) where
  pub table-marked : (get_or marks m 0 ≡ 0 → ⊥) → unread_table N m ≡ false
  unfolding unread_table
  table-marked d = ap not (bit_true (table_in_use N m) (omega (arith, t.each m h, one_le (table_in_use N m))))

  pub table_unmarked : get_or marks m 0 ≡ 0 → unread_table N m ≡ true
  unfolding unread_table
  table_unmarked z = ap not (bit_false (table_in_use N m) (λ s. omega (arith, t.each m h)))
