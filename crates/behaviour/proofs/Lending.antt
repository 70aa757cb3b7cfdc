-- Laws of what specs/Lending.antt defines. Assumes nothing.
use Rattle.std.specs.Prelude.{◌≡◌, Bool, [], ◌∷◌, ℕ, ◌^◌, ◌≤◌, length, get_or}
use Rattle.std.proofs.Math.Path.{refl, sym, ap₂}
use Rattle.std.proofs.Common.{ap, ◌∙◌, arith, pow_mono}
use Rattle.std.proofs.Math.Logic.{⊎_elim}
use Rattle.std.proofs.Math.Bool.{true, false, ◌&&◌}
use Rattle.std.proofs.lemmas.Bool.{false≢true}
use Rattle.lists.specs.Lists.{only}
use Rattle.lists.proofs.BelowLaws.{true_or_false}
use Rattle.lists.proofs.ListsLaws.{All, all_get_d, all_concat_below}
use Rattle.netlist.specs.Net.{Net, size, element_at, width_at, is_input}
use Rattle.netlist.specs.Checks.{WellFormed}
use Rattle.behaviour.specs.Runs.{Lent, input_widths, output_widths, fitting, takes}
use Rattle.behaviour.proofs.Fitting.{fitting-length, fitting_elim}
use Rattle.behaviour.specs.Service.{words_in, room_for, fitting_bytes, Entry}
use Rattle.behaviour.proofs.WordBytes.{whole, room_whole, fitting_whole, room_odd}
use Rattle.behaviour.specs.Lending.{takes_entry, lent_by}

unfoldable pub lent : Entry → Lent
lent e = lent_by (whole e.inputs && whole e.outputs) e

narrow_only : (b : Bool) (w : ℕ) → w ≤ 16 → All (λ k. k ≤ 16) (only b w)
narrow_only true w h = (h, tt)
narrow_only false w h = tt

and_false : (a : Bool) → (a && false) ≡ false
and_false true = refl
and_false false = refl

module _ (N : Net) (wf : WellFormed N) where
  narrow : All (λ w. w ≤ 16) (input_widths N)
  unfolding input_widths
  narrow = all_concat_below (λ w. w ≤ 16) (λ v. only (is_input (element_at N v)) (width_at N v)) (size N) (λ v h. narrow_only (is_input (element_at N v)) (width_at N v) (wf.fields.width_high v h))

  -- a word of 65,536 fits no port
  never_fits : fitting (input_widths N) (65536 ∷ []) ≡ true → ⊥
  never_fits t =
      let one-port : 1 ≡ length (input_widths N) = fitting-length (input_widths N) (65536 ∷ []) t in
      let w : get_or (input_widths N) 0 0 ≤ 16 = all_get_d (λ w. w ≤ 16) (input_widths N) 0 0 narrow (omega arith) in
      let p : 2 ^ get_or (input_widths N) 0 0 ≤ 2 ^ 16 = pow_mono w in
      omega (arith, fitting_elim (input_widths N) (65536 ∷ []) t 0 (omega arith))

  half_refused : (e : Entry) → takes N (lent_by false e) ≡ false
  unfolding takes
  half_refused e = ⊎_elim (λ t. absurd (never_fits t)) (λ t. rw t) (true_or_false (fitting (input_widths N) (65536 ∷ [])))

  whole_taken : (e : Entry) → whole e.inputs ≡ true → whole e.outputs ≡ true → takes N (lent_by true e) ≡ takes_entry N e
  unfolding takes takes_entry
  whole_taken e a b = ap₂ ◌&&◌ (sym (fitting_whole (input_widths N) e.inputs a)) (sym (room_whole (output_widths N) e.outputs b))

  -- THE LAW
  pub takes-lent : (e : Entry) → takes N (lent e) ≡ takes_entry N e
  unfolding lent takes_entry
  takes-lent e =
      ⊎_elim
      (λ (a : whole e.inputs ≡ true). ⊎_elim (λ (b : whole e.outputs ≡ true). rw a (rw b (whole_taken e a b)))
      (λ b. rw a (rw b (half_refused e ∙ sym (ap (λ (r : Bool). fitting_bytes (input_widths N) e.inputs && r) (room_odd (output_widths N) e.outputs b) ∙ and_false (fitting_bytes (input_widths N) e.inputs)))))
      (true_or_false (whole e.outputs)))
      (λ a. rw a (half_refused e ∙ sym (ap (λ (r : Bool). (r && fitting (input_widths N) (words_in e.inputs)) && room_for (output_widths N) e.outputs) (room_odd (input_widths N) e.inputs a))))
      (true_or_false (whole e.inputs))

  -- and then its words are those of its bytes
  pub words-lent : (e : Entry) → takes N (lent e) ≡ true → (lent e).words ≡ words_in e.inputs
  unfolding lent
  words-lent e t = by_test (whole e.inputs && whole e.outputs) t
    where
      by_test : (b : Bool) → takes N (lent_by b e) ≡ true → (lent_by b e).words ≡ words_in e.inputs
      by_test true k = refl
      by_test false k = absurd (false≢true (sym (half_refused e) ∙ k))
