-- Every word of a behaviour fits its node's width, where the input words fit. Assumes nothing.
use Rattle.std.specs.Prelude.{◌≡◌, refl, Bool, true, false, List, length, get_or, eqb, ltb}
use Rattle.std.proofs.Common.{sym, not-suc-le-zero, arith, lit<, pow_pos, pow-add}
use Rattle.std.proofs.Math.Path.{subst}
use Rattle.std.proofs.Math.Logic.{⊎_elim}
use Rattle.std.proofs.lemmas.Bool.{false≢true}
use Prim.Native.Nat.{ℕ, zero, suc, ◌+◌, ◌*◌, ◌^◌, ◌<◌}
use Rattle.std.proofs.Math.Nat.{mod-lt}
use Rattle.std.proofs.Math.ListN.{get_or-eq_default}
use Rattle.std.proofs.Math.Arith.{digits_lt}
use Rattle.std.proofs.Math.Pow.{ones_sub-lt}
use Rattle.std.specs.Int.Bits.{and_lt, or_lt, xor_lt}
use Rattle.words.specs.declared.Op.{Op}
use Rattle.words.specs.declared.Op.TheVariants.{Constant, Not, And, Or, Xor, Add, Subtract, Equal, Less, Choose, Part, Join}
use Rattle.netlist.specs.declared.Memory.{Memory}
use Rattle.netlist.specs.declared.Element.{Element}
use Rattle.netlist.specs.declared.Element.TheVariants.{Input, Output, Register, Async, Clocked, Gate}
use Rattle.lists.specs.Lists.{one}
use Rattle.lists.proofs.BelowLaws.{true_or_false, lt_or_le}
use Rattle.netlist.specs.Net.{Table, Net, size, element_at, width_at, source, operands, arity, table_no, delayed, held_at, gives, within_clock, within_few, is_input, is_memory, table_of, contents_in, contents_at, port_of, Behaves, Sourced, RankedIn}
use Rattle.words.specs.Gates.{operands_of, operate}
use Rattle.netlist.specs.Checks.{OpWidths, OpFits, MemoryWidths, ElementWidths, Fits, HasTable, table_in, WellFormed}
use Rattle.behaviour.proofs.Settled.{clock_rank, ranked}

pub fits_at : {a w w' : ℕ} → w ≡ w' → a < 2 ^ w → a < 2 ^ w'
fits_at {a} e h = subst (λ (k : ℕ). a < 2 ^ k) e h

one_fits : (b : Bool) (w : ℕ) → w ≡ 1 → one b < 2 ^ w
one_fits true w e = rw e (lit< tt)
one_fits false w e = rw e (lit< tt)

module _ (w : ℕ) (ws d : ℕ → ℕ) where
  pub operate-fits : (o : Op) → OpWidths o w ws → OpFits o w → ((p : ℕ) → p < operands_of o → d p < 2 ^ ws p) → operate o w ws d < 2 ^ w
  unfolding operate
  operate-fits (Constant c) r f h = f
  operate-fits Not r f h = ones_sub-lt w (d 0)
  operate-fits And r f h = and_lt w (d 0) (d 1) (fits_at r.0 (h 0 (lit< tt))) (fits_at r.1 (h 1 (lit< tt)))
  operate-fits Or r f h = or_lt w (d 0) (d 1) (fits_at r.0 (h 0 (lit< tt))) (fits_at r.1 (h 1 (lit< tt)))
  operate-fits Xor r f h = xor_lt w (d 0) (d 1) (fits_at r.0 (h 0 (lit< tt))) (fits_at r.1 (h 1 (lit< tt)))
  operate-fits Add r f h = mod-lt _ (pow_pos w)
  operate-fits Subtract r f h = mod-lt _ (pow_pos w)
  operate-fits Equal r f h = one_fits (eqb (d 0) (d 1)) w r.1
  operate-fits Less r f h = one_fits (ltb (d 0) (d 1)) w r.1
  operate-fits Choose r f h =
      ⊎_elim (λ t. rw t (fits_at r.1 (h 1 (lit< tt)))) (λ t. rw t (fits_at r.2 (h 2 (lit< tt)))) (true_or_false (eqb (d 0) 1))
  operate-fits (Part b) r f h = mod-lt _ (pow_pos w)
  operate-fits Join r f h =
      fits_at r (subst (λ (k : ℕ). d 0 * 2 ^ ws 1 + d 1 < k) (sym (pow-add 2 (ws 0) (ws 1))) (digits_lt (h 0 (lit< tt)) (h 1 (lit< tt))))

-- every word of a list fits
pub AllFit : List ℕ → ℕ → Type 0
AllFit M w = (a : ℕ) → a < length M → get_or M a 0 < 2 ^ w

pub word_fits : (M : List ℕ) (w a : ℕ) → AllFit M w → get_or M a 0 < 2 ^ w
unfolding AllFit
word_fits M w a fit = ⊎_elim (λ k. fit a k) (λ k. rw (get_or-eq_default M 0 k) (pow_pos w)) (lt_or_le a (length M))

-- what a memory holds fits, where its operands do
pub held_fits : (m : Memory) (t : Table) (w : ℕ) (ws : ℕ → ℕ) (M : List ℕ) (d : ℕ → ℕ → ℕ) (c : ℕ) → MemoryWidths t m w ws → AllFit M w
    → ((p : ℕ) → p < arity m → (s : ℕ) → s < c → d p s < 2 ^ ws p) → AllFit (held_at m M d c) w
held_fits m t w ws M d c r fit h = fit

pub memory_wide : (m : Memory) (t : Table) (w : ℕ) (ws : ℕ → ℕ) → MemoryWidths t m w ws → w ≡ t.wide
memory_wide m t w ws r = r.1

delayed-fits : (r w : ℕ) (d : ℕ → ℕ) (t : ℕ) → r < 2 ^ w → ((s : ℕ) → s < t → d s < 2 ^ w) → delayed r d t < 2 ^ w
delayed-fits r w d zero h k = h
delayed-fits r w d (suc t) h k = k t (omega arith)

module _ (ts : List Table) (M : List ℕ) (w : ℕ) (ws i : ℕ → ℕ) (d : ℕ → ℕ → ℕ) (t : ℕ) where
  gives_fits : (e : Element) → ElementWidths ts e w ws → Fits e w → (is_memory e ≡ true → AllFit M w) → (is_input e ≡ true → i t < 2 ^ w)
      → ((p : ℕ) → p < within_clock e → d p t < 2 ^ ws p) → ((p : ℕ) → p < operands e → (s : ℕ) → s < t → d p s < 2 ^ ws p)
      → gives M e w ws i d t < 2 ^ w
  gives_fits Input r f fit hi now before = hi refl
  gives_fits Output r f fit hi now before = fits_at r (now 0 (lit< tt))
  gives_fits (Register q) r f fit hi now before = delayed-fits q w (d 0) t f (λ s l. fits_at r (before 0 (lit< tt) s l))
  gives_fits (Async k) r f fit hi now before = word_fits (held_at k M d t) w (d 0 t) (held_fits k (table_in ts (table_no k)) w ws M d t r (fit refl) before)
  gives_fits (Clocked k q) r f fit hi now before =
      delayed-fits q w (λ s. get_or (held_at k M d s) (d 0 s) 0) t f
      (λ s l. word_fits (held_at k M d s) w (d 0 s) (held_fits k (table_in ts (table_no k)) w ws M d s r (fit refl) (λ p q u m. before p q u (omega arith))))
  gives_fits (Gate o) r f fit hi now before = operate-fits w ws (λ p. d p t) o r f now

-- a ROM's table is there and as wide as the ROM
pub rom_widths : (ts : List Table) (e : Element) (w : ℕ) (ws : ℕ → ℕ) → is_memory e ≡ true → ElementWidths ts e w ws → HasTable ts e → (table_of e < length ts) × (w ≡ (table_in ts (table_of e)).wide)
rom_widths ts Input w ws h r m = absurd (false≢true h)
rom_widths ts Output w ws h r m = absurd (false≢true h)
rom_widths ts (Register q) w ws h r m = absurd (false≢true h)
rom_widths ts (Async k) w ws h r m = (m, memory_wide k (table_in ts (table_no k)) w ws r)
rom_widths ts (Clocked k q) w ws h r m = (m, memory_wide k (table_in ts (table_no k)) w ws r)
rom_widths ts (Gate o) w ws h r m = absurd (false≢true h)

-- the contents of a ROM fit it
pub contents_fit : (N : Net) → WellFormed N → (v : ℕ) → v < size N → is_memory (element_at N v) ≡ true → AllFit (contents_at N v) (width_at N v)
unfolding contents_at contents_in AllFit
contents_fit N ok v h e a l =
    let r = rom_widths N.tables (element_at N v) (width_at N v) (λ p. width_at N (source N v p)) e (ok.widths v h) (ok.has_table v h) in
    fits_at (sym r.1) ((ok.fields.tables_fit (table_of (element_at N v)) r.0).each_fits a l)

module _ (N : Net) (ok : WellFormed N) (ins B : ℕ → ℕ → ℕ) (hB : Behaves N ins B)
    (inputs : (t v : ℕ) → v < size N → is_input (element_at N v) ≡ true → ins t (port_of N v) < 2 ^ width_at N v) where
  level : (t k : ℕ) → ((s v : ℕ) → s < t → v < size N → B s v < 2 ^ width_at N v) → (v : ℕ) → v < size N → clock_rank N v < k → B t v < 2 ^ width_at N v
  unfolding Behaves Sourced RankedIn
  level t zero earlier v h l = absurd (not-suc-le-zero l)
  level t (suc k) earlier v h l =
      subst (λ (n : ℕ). n < 2 ^ width_at N v) (sym (hB t v h))
      (gives_fits N.tables (contents_at N v) (width_at N v) (λ p. width_at N (source N v p)) (λ s. ins s (port_of N v)) (λ p s. B s (source N v p)) t (element_at N v)
      (ok.widths v h) (ok.fields.word_fits v h) (contents_fit N ok v h) (inputs t v h)
      (λ p q. level t k earlier (source N v p) (ok.sourced v p h (omega (arith, within_few (element_at N v)))) (omega (arith, ranked N ok v p h q)))
      (λ p q s r. earlier s (source N v p) r (ok.sourced v p h q)))

  up_to : (t s v : ℕ) → s < t → v < size N → B s v < 2 ^ width_at N v
  up_to zero s v l h = absurd (not-suc-le-zero l)
  up_to (suc t) s v l h = level s (suc (clock_rank N v)) (λ r u m k. up_to t r u (omega arith) k) v h (omega arith)

  pub words_fit_lem : (t v : ℕ) → v < size N → B t v < 2 ^ width_at N v
  words_fit_lem t v h = up_to (suc t) t v (omega arith) h
