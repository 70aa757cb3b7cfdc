-- A reader and its operands as the code reads them, over plain values. Assumes nothing.
use mathlib.Core.Path.{◌≡◌, refl, sym, ap, subst, ◌∙◌}
use mathlib.Core.Bool.{Bool, true, false}
use mathlib.Core.List.{List}
use mir.Val.{bool_byte}
use Prim.Native.Nat.{ℕ, ◌+◌, ◌≤◌, ◌<◌}
use native.Mathlib.Omega.{arith}
use lib.ListN.{length, get_or}
use lib.Dec.{eqb}
use borrow.Author.Count.{below_more}
use Rattle.lists.specs.Lists.{one}
use Rattle.lists.proofs.BelowLaws.{count_below-le}
use Rattle.netlist.specs.Net.{Net, size, element_at, source, operands, is_register, is_async, count_of, Sourced}
use Rattle.circuit.specs.Code.{code_of}
use Rattle.circuit.proofs.CircuitLaws.{async_counted}
use Rattle.retiming.specs.Leads.{async_here, register_here}
use Rattle.retiming.specs.AtMostRoms.{rom_count}
use Rattle.retiming.specs.LateLeads.{origin}
use Rattle.leads.specs.Progress.{Served, ServedTo, Content, Raise, enough, lifted, Progress, progress_none, progress_map, raised_more}

pub raise_bit : {L : List ℕ} {u due taken : ℕ} {M : List ℕ} {j : ℕ} → Raise L u due taken M j → j ≤ 1
raise_bit (enough l) = omega arith
raise_bit (lifted l) = omega arith

-- a flag as a number
one_byte : (b : Bool) → bool_byte b ≡ one b
one_byte true = refl
one_byte false = refl

pub rom_count_lem : (N : Net) → count_of (λ e. eqb (code_of e) 3) N ≡ rom_count N
unfolding rom_count
rom_count_lem N = async_counted N

-- the bound of a search is no large number
pub bound_few : (N : Net) → size N ≤ 1024 → origin N + rom_count N < 65535
unfolding origin rom_count
bound_few N l = omega (arith, count_below-le (λ v. is_async (element_at N v)) (size N))

-- ---- a visit to reader x, which has n operands

module _ (N : Net) {x n : ℕ} (h : x < size N) (o : n ≡ operands (element_at N x)) where
  used : {p : ℕ} → p < n → p < operands (element_at N x)
  used {p} l = subst (λ (k : ℕ). p < k) o l

  pub source_inside : {p u : ℕ} → Sourced N → p < n → u ≡ source N x p → u < size N
  unfolding Sourced
  source_inside {p} sourced l e = subst (λ (v : ℕ). v < size N) (sym e) (sourced x p h (used l))

  module _ (bound : ℕ) {own : ℕ} {L₀ : List ℕ} (is : own ≡ get_or L₀ x 0) where
    pub relax-more : {k p u j : ℕ} {a t : Bool} {L M : List ℕ} → Sourced N → (own ≡ 0 → ⊥) → own ≤ bound → size N ≤ length L → p < n → u ≡ source N x p → a ≡ is_async (element_at N u)
        → t ≡ is_register (element_at N x) → Progress N bound L₀ L k (ServedTo N x own p) → Raise L u (bool_byte a + own) (bool_byte t) M j → Progress N bound L₀ M (k + j) (ServedTo N x own (p + 1))
    unfolding async_here register_here
    relax-more {p = p} sourced asks fits room l e b c t r =
        raised_more N bound x p own h (used l) (source_inside sourced l refl) room (omega arith) fits is t e (ap (λ (m : ℕ). m + own) (one_byte _ ∙ ap one b ∙ ap (async_here N) e)) (one_byte _ ∙ ap one c) r (λ d f. below_more (λ (q : ℕ). Served N x own L₀ q) p d f)

    -- all operands seen
    pub relax-done : {k p : ℕ} {L : List ℕ} → n ≤ p → Progress N bound L₀ L k (ServedTo N x own p) → Progress N bound L₀ L k (Content N bound x)
    relax-done l t = progress_map N bound t (λ f _ _ q r. subst (λ (m : ℕ). Served N x m L₀ q) is (f q (omega (arith, o))))

-- a number that asks nothing
module _ (N : Net) (bound : ℕ) {own x : ℕ} {L : List ℕ} (is : own ≡ get_or L x 0) where
  pub relax_none : own ≡ 0 → Progress N bound L L 0 (Content N bound x)
  relax_none z = progress_none N bound (λ pos _. absurd (omega arith))

  pub relax_over : bound < own → Progress N bound L L 0 (Content N bound x)
  relax_over o = progress_none N bound (λ _ l. absurd (omega arith))
