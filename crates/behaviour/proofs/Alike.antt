-- Laws of what specs/Alike.antt defines. Assumes nothing.
use Rattle.std.specs.Prelude.{◌≡◌, Bool, cond, ◌&&◌, ℕ, ◌<◌, eqb, length}
use Rattle.std.proofs.Math.Path.{refl, sym, ap}
use Rattle.std.proofs.Common.{ap₂, ◌∙◌, arith}
use Rattle.std.proofs.Math.Bool.{true, false}
use mathlib.Core.List.{List, [], ◌∷◌}
use Rattle.std.proofs.Math.ListN.{get_or}
use Rattle.lists.specs.Lists.{only}
use Rattle.lists.proofs.ListsLaws.{concat_map-cong}
use Rattle.netlist.specs.Net.{Net, size, element_at, is_output, Behaves, outputs_of}
use Rattle.behaviour.specs.Run.{reset_state, run_outputs, run_word, state_at, outputs_at}
use Rattle.behaviour.specs.Runs.{input_widths, output_widths, fitting, Lent, Gave, takes, refusal, outcome, runs}
use Rattle.behaviour.proofs.Meaning.{settles, the_run_behaves, one_behaviour}
use Rattle.netlist.specs.Checks.{WellFormed}
use Rattle.behaviour.proofs.States.{InputsFit, zeros_fit, refusal_is}
use Rattle.behaviour.proofs.History.{at_clock, outputs_now_lem, history, clock, after_is, history-fits}
use Rattle.behaviour.specs.Alike.{Alike}

pub alike_again : {N M P : Net} → Alike N M → Alike M P → Alike N P
alike_again a b = record { old = a.old; new = b.new; answers = λ ins t. b.answers ins t ∙ a.answers ins t; inputs = b.inputs ∙ a.inputs; outputs = b.outputs ∙ a.outputs }

-- the same entries are taken
takes_alike : (N M : Net) → Alike N M → (e : Lent) → takes M e ≡ takes N e
unfolding takes
takes_alike N M ok e = ap₂ (λ (is os : List ℕ). fitting is e.words && eqb (length e.room) (length os)) ok.inputs ok.outputs

module _ (N M : Net) (ok : Alike N M) where
  outcome_alike : (b : Bool) (h : ℕ → List ℕ) (t : ℕ) (e : Lent) → outcome (cond b 0 15) M (state_at M h t) e ≡ outcome (cond b 0 15) N (state_at N h t) e
  unfolding outcome
  outcome_alike true h t e =
      ap Gave (outputs_now_lem M h t e.words ∙ ok.answers (at_clock h t e.words) t ∙ sym (outputs_now_lem N h t e.words))
  outcome_alike false h t e = refl

  -- both histories fit, so both refuse by 15 alone, and both by the same test
  record Both (h : ℕ → List ℕ) : Type 0 where
    old : InputsFit N h
    new : InputsFit M h

  module _ (h : ℕ → List ℕ) (t : ℕ) (e : Lent) (both : Both h) where
    refusal_old : refusal N (state_at N h t) e ≡ cond (takes N e) 0 15
    refusal_old = refusal_is N ok.old h both.old t e

    refusal-new : refusal M (state_at M h t) e ≡ cond (takes N e) 0 15
    refusal-new = refusal_is M ok.new h both.new t e ∙ ap (λ (b : Bool). cond b 0 15) (takes_alike N M ok e)

    both_next : Both (history (takes N e) h t e)
    both_next = record {
      old = history-fits N (takes N e) h t e refl both.old;
      new = history-fits M (takes N e) h t e (takes_alike N M ok e) both.new;
    }

  runs_from : (es : List Lent) (h : ℕ → List ℕ) (t : ℕ) → Both h → runs M (state_at M h t) es ≡ runs N (state_at N h t) es
  unfolding runs
  runs_from [] h t both = refl
  runs_from (e ∷ es) h t both =
      rw (refusal_old h t e both) (rw (refusal-new h t e both)
      (ap₂ ◌∷◌ (outcome_alike (takes N e) h t e)
      (ap (λ (s : List ℕ). runs M s es) (after_is M (takes N e) h t e)
      ∙ runs_from es (history (takes N e) h t e) (clock (takes N e) t) (both_next h t e both)
      ∙ sym (ap (λ (s : List ℕ). runs N s es) (after_is N (takes N e) h t e)))))

  zeros : Both (λ t. [])
  zeros = record { old = zeros_fit N; new = zeros_fit M }

  -- THE THEOREM
  pub runs_alike : (es : List Lent) → runs M (reset_state M) es ≡ runs N (reset_state N) es
  unfolding state_at
  runs_alike es = runs_from es (λ s. []) 0 zeros

-- ---- netlists are alike where each behaviour of the one goes over into a behaviour of the other that shows the same

outputs_cong : (M : Net) (f g : ℕ → ℕ) → ((v : ℕ) → v < size M → f v ≡ g v) → outputs_of M f ≡ outputs_of M g
unfolding outputs_of
outputs_cong M f g h = concat_map-cong (λ v. only (is_output (element_at M v)) (f v)) (λ v. only (is_output (element_at M v)) (g v)) 0 (size M) (λ v l. ap (only (is_output (element_at M v))) (h v (omega arith)))

module _ (N M : Net) (wfN : WellFormed N) (wfM : WellFormed M)
    (carried : (ins B : ℕ → ℕ → ℕ) → Behaves N ins B → (C : ℕ → ℕ → ℕ) × Behaves M ins C × ((t : ℕ) → outputs_of M (C t) ≡ outputs_of N (B t))) where
  carried_answers : (ins : ℕ → List ℕ) (t : ℕ) → outputs_at M ins t ≡ outputs_at N ins t
  unfolding outputs_at run_outputs run_word
  carried_answers ins t =
      let c = carried (λ s port. get_or (ins s) port 0) (run_word N ins) (the_run_behaves N wfN.sourced (settles N wfN) ins) in
      outputs_cong M (run_word M ins t) (c.0 t)
      (one_behaviour M wfM.sourced (settles M wfM) (λ s port. get_or (ins s) port 0) (run_word M ins) c.0 (the_run_behaves M wfM.sourced (settles M wfM) ins) c.1 t)
      ∙ c.2 t

  pub carried_alike : input_widths M ≡ input_widths N → output_widths M ≡ output_widths N → Alike N M
  carried_alike i o = record { old = wfN; new = wfM; answers = carried_answers; inputs = i; outputs = o }
