-- Laws of what specs/AtMostRoms.antt defines. Assumes nothing.
use Rattle.std.specs.Prelude.{◌≡◌, Bool, true, false}
use Rattle.std.proofs.Math.Path.{sym, ap}
use Rattle.std.proofs.Common.{◌∙◌, not-suc-le-zero, arith}
use Rattle.std.proofs.Math.Logic.{⊎_elim}
use Prim.Native.Nat.{ℕ, suc, ◌+◌, ◌≤◌, ◌<◌, min}
use Rattle.lists.specs.Lists.{count_below}
use Rattle.lists.proofs.BelowLaws.{true_or_false, lt_or_le, count_below-lt, count_below_same, Twice, pigeonhole}
use Rattle.netlist.specs.Net.{Net, size, element_at, is_async, Sourced}
use Rattle.retiming.specs.Leads.{async_here, Walk, here, step, leaves, enters, lead, closed_debt}
use Rattle.retiming.proofs.Elements.{async_le}
use Rattle.retiming.specs.LateLeads.{origin, lead_to, closed_debt_to}
use Rattle.retiming.proofs.LateLeadsLaws.{lead_serves, lead_reached, lead_bounds_walk}
use Rattle.retiming.specs.Anywhere.{anywhere}
use Rattle.retiming.proofs.Anywhere.{closed_same, lead_same}
use Rattle.retiming.specs.AtMostRoms.{rom_count}

module _ (N : Net) (ends : ℕ → Bool) (sourced : Sourced N) (debtless : closed_debt_to N ends ≡ false) where
  -- an asynchronous ROM of lead j
  record Level (j : ℕ) : Type 0 where
    node : ℕ
    inside : node < size N
    rom : is_async (element_at N node) ≡ true
    height : lead_to N ends node ≡ j

  rom_here : (u : ℕ) → 0 < async_here N u → is_async (element_at N u) ≡ true
  unfolding async_here
  rom_here u h = ⊎_elim (λ t. t) (λ t. absurd (not-suc-le-zero (rw t at h))) (true_or_false (is_async (element_at N u)))

  -- a walk that reaches its first node's lead passes every level between the origin and it
  levels : {u v : ℕ} (w : Walk N u v) → u < size N → ends v ≡ true → origin N + leaves w ≡ enters w + lead_to N ends u → (j : ℕ) → origin N < j → j ≤ lead_to N ends u → Level j
  unfolding leaves enters
  levels (here e) h a tight j pos l = absurd (omega arith)
  levels (step {u = u} {x = x} r w) h a tight j pos l =
      let b = lead_bounds_walk N ends sourced debtless w r.inside a in
      let s = lead_serves N ends sourced debtless r b.0 in
      ⊎_elim
      (λ k. record { node = u; inside = h; rom = rom_here u (omega (arith, s, b.1, k)); height = omega (arith, s, b.1, k, async_le N u) })
      (λ k. levels w r.inside a (omega (arith, s, b.1)) j pos k)
      (lt_or_le (lead_to N ends x) j)

  module _ (u : ℕ) (h : u < size N) (more : origin N + rom_count N < lead_to N ends u) where
    level : (i : ℕ) → Level (suc (origin N + min i (rom_count N)))
    level i = let r = lead_reached N ends u h (omega arith) in levels r.1 h r.2 r.3 (suc (origin N + min i (rom_count N))) (omega arith) (omega arith)

    ordinal : ℕ → ℕ
    ordinal i = count_below (λ v. is_async (element_at N v)) (level i).node

    ordinal_lt : (i : ℕ) → ordinal i < rom_count N
    unfolding ordinal rom_count
    ordinal_lt i = count_below-lt (λ v. is_async (element_at N v)) (level i).node (size N) (level i).rom (level i).inside

    clash : Twice ordinal (rom_count N) → ⊥
    unfolding ordinal
    clash t =
        let same-node : (level t.first).node ≡ (level t.second).node = count_below_same (λ v. is_async (element_at N v)) _ _ (level t.first).rom (level t.second).rom t.alike in
        let heights : suc (origin N + min t.first (rom_count N)) ≡ suc (origin N + min t.second (rom_count N)) = sym (level t.first).height ∙ ap (lead_to N ends) same-node ∙ (level t.second).height in
        omega (arith, t.apart, t.within)

  pub late_at_most_roms : (u : ℕ) → u < size N → lead_to N ends u ≤ origin N + rom_count N
  late_at_most_roms u h =
      ⊎_elim (λ l. absurd (clash u h l (pigeonhole (rom_count N) (ordinal u h l) (λ i k. ordinal_lt u h l i)))) (λ l. l) (lt_or_le (origin N + rom_count N) (lead_to N ends u))

-- document 01's leads are those of walks that may end anywhere
pub lead_at_most_roms : (N : Net) → Sourced N → closed_debt N ≡ false → (u : ℕ) → u < size N → lead N u ≤ rom_count N
lead_at_most_roms N sourced debtless u h = omega (arith, lead_same N sourced debtless u h, late_at_most_roms N anywhere sourced (closed_same N sourced ∙ debtless) u h)
