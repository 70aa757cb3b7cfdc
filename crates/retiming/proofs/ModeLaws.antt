-- What holds of a mode where its 11 and 12 do not apply: its timing suits the netlist, and its new netlist is the one over that timing. Assumes nothing.
use Rattle.std.specs.Prelude.{◌≡◌, true, false, [], ◌∷◌, ℕ, suc, ◌+◌, ◌≤◌, ◌<◌, ltb}
use Rattle.std.proofs.Math.Path.{refl, ap}
use Rattle.std.proofs.Common.{sym, subst, ◌∙◌, lt-ltb}
use Rattle.std.proofs.Math.Logic.{⊎_elim}
use native.Mathlib.Omega.{arith}
use Rattle.std.proofs.Math.Dec.{lit≤}
use Rattle.lists.proofs.BelowLaws.{true_or_false, count_below-le}
use Rattle.netlist.specs.Net.{Net, size, element_at, is_input, is_async}
use Rattle.netlist.specs.Checks.{WellFormed, TablesRead}
use Rattle.netlist.specs.Trim.{trimmed}
use Rattle.netlist.proofs.Trimmed.{size-trimmed}
use Rattle.netlist.proofs.NothingTrimmed.{trimmed_same}
use Rattle.netlist.specs.Verdict.{Fine, at_lowest, of_whole, verdict}
use Rattle.behaviour.specs.Run.{zero_word}
use Rattle.retiming.specs.declared.Mode.{Mode}
use Rattle.retiming.specs.declared.Mode.TheVariants.{Plain, Late}
use Rattle.retiming.specs.Leads.{lead, port_debt}
use Rattle.retiming.specs.AtMostRoms.{rom_count}
use Rattle.retiming.proofs.AtMostRoms.{lead_at_most_roms, late_at_most_roms}
use Rattle.retiming.specs.LateLeads.{late_ends, origin, lead_to, port_debt_to}
use Rattle.retiming.specs.Rewrite.{timing_by, timing, rewritten}
use Rattle.retiming.specs.LateRewrite.{timing_to_by, timing_to, late_timing, late_started}
use Rattle.retiming.specs.Gates.{gated_with}
use Rattle.retiming.specs.Debt.{grown, debt_stages, debt_verdict}
use Rattle.retiming.specs.LateDebt.{late_stages, late_verdict}
use Rattle.retiming.specs.Lengths.{NotLeftOut}
use Rattle.retiming.proofs.Retimed.{retimes, rewritten_is}
use Rattle.retiming.proofs.TablesKept.{rewritten-read}
use Rattle.retiming.proofs.LateRetimed.{late_retimes, late_kept}
use Rattle.retiming.proofs.ThreeChecks.{says_fine_only}
use Rattle.retiming.proofs.PastDebt.{no_port}
use Rattle.retiming.specs.Modes.{mode_closed, mode_owing, mode_timing, mode_trimmed, mode_net, mode_verdict}
use Rattle.retiming.specs.ModeLaws.{Suits}

-- what is left out are tables
pub mode_size : (mode : Mode) (M : Net) → size (mode_trimmed mode M) ≡ size M
mode_size Plain M = refl
mode_size Late M = size-trimmed M

-- 11, 12 and 13 in order, of either mode
pub mode_stages : (mode : Mode) (N : Net)
    → mode_verdict mode N ≡ verdict (of_whole 11 (λ v. mode_closed mode N) ∷ at_lowest 12 (size N) (mode_owing mode N) ∷ of_whole 13 (λ v. grown (mode_net mode N)) ∷ [])
unfolding debt_verdict debt_stages late_verdict late_stages
mode_stages Plain N = refl
mode_stages Late N = refl

-- what they leave
pub mode_clear : (mode : Mode) (N : Net) → mode_verdict mode N ≡ Fine → (mode_closed mode N ≡ false) × ((v : ℕ) → v < size N → mode_owing mode N v ≡ false) × (grown (mode_net mode N) ≡ false)
mode_clear mode N e = says_fine_only (mode_closed mode N) (size N) (mode_owing mode N) (grown (mode_net mode N)) (sym (mode_stages mode N) ∙ e)

module _ (N : Net) (wf : WellFormed N) where
  roms_few : rom_count N ≤ 1024
  unfolding rom_count
  roms_few = omega (arith, count_below-le (λ u. is_async (element_at N u)) (size N), wf.fields.bounds.nodes)

  -- the late start: the ports are at the origin, and any other node that stays is above 0
  late_keeps : (v : ℕ) → (late_timing N).keeps v ≡ ltb 0 ((late_timing N).lead v)
  unfolding late_timing timing_to timing_to_by origin
  late_keeps v = ⊎_elim (λ i. rw i (sym (lt-ltb 0 (suc (suc (size N))) (omega arith)))) (λ i. rw i refl) (true_or_false (is_input (element_at N v)))

  late-origin : 0 < (late_timing N).origin
  unfolding late_timing timing_to timing_to_by origin
  late-origin = omega arith

  late_few : mode_closed Late N ≡ false → (v : ℕ) → v < size N → (late_timing N).lead v ≤ 2050
  unfolding late_timing timing_to timing_to_by origin lead_to
  late_few debtless v h =
      ⊎_elim (λ i. rw i (omega (arith, wf.fields.bounds.nodes)))
      (λ i. rw i (omega (arith, late_at_most_roms N (late_ends N) wf.sourced debtless v h, roms_few, wf.fields.bounds.nodes)))
      (true_or_false (is_input (element_at N v)))

  late_low : (late_timing N).origin ≤ 1026
  unfolding late_timing timing_to timing_to_by origin
  late_low = omega (arith, wf.fields.bounds.nodes)

  plain_few : mode_closed Plain N ≡ false → (v : ℕ) → v < size N → (timing N).lead v ≤ 2050
  unfolding timing timing_by lead
  plain_few debtless v h = omega (arith, lead_at_most_roms N wf.sourced debtless v h, roms_few)

  plain_low : (timing N).origin ≤ 1026
  unfolding timing timing_by
  plain_low = lit≤ tt

  plain_origin : (timing N).origin ≡ 0
  unfolding timing timing_by
  plain_origin = refl

  plain_keeps : (v : ℕ) → (timing N).keeps v ≡ true
  unfolding timing timing_by
  plain_keeps v = refl

  -- THE LAWS
  pub mode_suits : (mode : Mode) → mode_closed mode N ≡ false → ((v : ℕ) → v < size N → mode_owing mode N v ≡ false) → Suits N (mode_timing mode N)
  unfolding port_debt port_debt_to
  mode_suits Plain debtless none = record { retimes = retimes N wf debtless (no_port (size N) (mode_owing Plain N) none); low = plain_low; few = plain_few debtless; keeps_all = λ z. plain_keeps; keeps_late = λ o. absurd (omega (arith, plain_origin)) }
  mode_suits Late debtless none = record { retimes = late_retimes N wf debtless (no_port (size N) (mode_owing Late N) none); low = late_low; few = late_few debtless; keeps_all = λ z. absurd (omega (arith, late-origin)); keeps_late = λ o. late_keeps }

  -- what is not left out stays
  pub mode_keeps : (mode : Mode) → mode_closed mode N ≡ false → ((v : ℕ) → v < size N → mode_owing mode N v ≡ false) → (u : ℕ) → NotLeftOut mode N u → u < size N → (mode_timing mode N).keeps u ≡ true
  unfolding port_debt_to
  mode_keeps Plain debtless none u c h = plain_keeps u
  mode_keeps Late debtless none u c h = late_kept N wf debtless (no_port (size N) (mode_owing Late N) none) u h c

  pub mode_net_lem : (mode : Mode) → mode_closed mode N ≡ false → ((v : ℕ) → v < size N → mode_owing mode N v ≡ false)
      → mode_trimmed mode (gated_with N (mode_timing mode N) (zero_word N)) ≡ mode_net mode N
  unfolding late_started port_debt
  mode_net_lem Plain debtless none = rewritten_is N wf debtless (no_port (size N) (mode_owing Plain N) none)
  mode_net_lem Late debtless none = refl

  -- nothing else is left out of either, where the old netlist reads its tables
  pub mode_left : (mode : Mode) → mode_closed mode N ≡ false → ((v : ℕ) → v < size N → mode_owing mode N v ≡ false) → TablesRead N
      → WellFormed (gated_with N (mode_timing mode N) (zero_word N)) → trimmed (gated_with N (mode_timing mode N) (zero_word N)) ≡ mode_net mode N
  unfolding late_started port_debt
  mode_left Plain debtless none read new =
      let portless = no_port (size N) (mode_owing Plain N) none in
      let is = rewritten_is N wf debtless portless in
      ap trimmed is ∙ trimmed_same (rewritten N) (subst WellFormed is new).has_table (rewritten-read N wf debtless portless read)
  mode_left Late debtless none read new = refl

-- by the mode's name
module _ (N : Net) {mode : Mode} where
  pub origin_plain : mode ≡ Plain → 0 ≡ (mode_timing mode N).origin
  unfolding timing timing_by
  origin_plain e = ap (λ (m : Mode). (mode_timing m N).origin) (sym e)

  pub origin-late : mode ≡ Late → {n : ℕ} → n ≡ size N → n + 2 ≡ (mode_timing mode N).origin
  unfolding late_timing timing_to timing_to_by origin
  origin-late e k = omega (arith, k, ap (λ (m : Mode). (mode_timing m N).origin) (sym e))

  pub stays_plain : mode ≡ Plain → (v : ℕ) → true ≡ (mode_timing mode N).keeps v
  unfolding timing timing_by
  stays_plain e v = ap (λ (m : Mode). (mode_timing m N).keeps v) (sym e)

  pub stays-late : WellFormed N → mode ≡ Late → (v : ℕ) {k : ℕ} → k ≡ (mode_timing mode N).lead v → ltb 0 k ≡ (mode_timing mode N).keeps v
  stays-late wf e v q =
      ap (ltb 0) (q ∙ ap (λ (m : Mode). (mode_timing m N).lead v) e) ∙ sym (late_keeps N wf v) ∙ ap (λ (m : Mode). (mode_timing m N).keeps v) (sym e)
