-- Rows that were loaded one after the other, and then evaluated: the words of the run. Assumes nothing.
use mathlib.Core.Path.{◌≡◌, refl, sym, ap₂, subst, ◌∙◌}
use mathlib.Core.Bool.{true, false, false≢true}
use mathlib.Core.List.{List, map}
use Prim.Native.Nat.{ℕ, ◌^◌, ◌<◌}
use lib.ListN.{get_or}
use Rattle.netlist.specs.Net.{Net, size, element_at, width_at, source, is_input, holds_word, outputs_of, Sourced}
use Rattle.netlist.specs.Checks.{WellFormed}
use Rattle.netlist.specs.declared.Element.{Element}
use Rattle.netlist.specs.declared.Element.TheVariants.{Input, Output, Register, Async, Clocked, Gate}
use Rattle.behaviour.specs.Run.{holds_next, contents_now, words, next_state, run_outputs, run_state}
use Rattle.behaviour.specs.Service.{words_in}
use Rattle.lists.proofs.SelectLaws.{select_same, members_map}
use Rattle.evaluate.specs.Rows.{row_test, row_members, row_of, RowFits, Loaded}
use Rattle.evaluate.specs.Clock.{clock_words, Evaluated}
use Rattle.evaluate.specs.Settling.{clock-fits}
use Rattle.evaluate.specs.declared.Row.TheVariants.{Inputs, Outputs, State}
use Rattle.evaluate.specs.Next.{WordsFit, holder_reads, next_same}

-- no input port has a word in the state
apart : (e : Element) → is_input e ≡ true → holds_word e ≡ false
apart Input h = refl
apart Output h = refl
apart (Register r) h = absurd (false≢true h)
apart (Async m) h = refl
apart (Clocked m r) h = absurd (false≢true h)
apart (Gate o) h = refl

module _ {N : Net} {st ins w₀ w₁ w₂ : List ℕ} (a : Loaded Inputs N ins w₀ w₁) (b : Loaded State N st w₁ w₂) where
  inputs_stay : (v : ℕ) → row_test Inputs N v ≡ true → get_or w₂ v 0 ≡ get_or w₁ v 0
  inputs_stay v t = b.others v (apart (element_at N v) t)

  pub inputs_fit : RowFits Inputs N w₂
  inputs_fit v h t = subst (λ (x : ℕ). x < 2 ^ width_at N v) (sym (inputs_stay v t)) (a.fit v h t)

  inputs_are : row_of Inputs N w₂ ≡ words_in ins
  inputs_are = select_same (row_test Inputs N) (λ v. get_or w₂ v 0) (λ v. get_or w₁ v 0) (size N) (λ v h t. inputs_stay v t) ∙ a.words

  module _ (wf : WellFormed N) {w₃ : List ℕ} (e : Evaluated N w₂ w₃) where
    run_words : (v : ℕ) → v < size N → get_or w₃ v 0 ≡ get_or (words N (words_in st) (words_in ins)) v 0
    unfolding clock_words
    run_words v h = e.each v h ∙ ap₂ (λ (x y : List ℕ). get_or (words N x y) v 0) b.words inputs_are

    pub run_fits : WordsFit N w₃
    run_fits v h = subst (λ (x : ℕ). x < 2 ^ width_at N v) (sym (e.each v h)) (clock-fits N wf w₂ inputs_fit b.fit v h)

    pub run_outputs_lem : {m : List ℕ} → m ≡ row_members Outputs N → map (λ v. get_or w₃ v 0) m ≡ run_outputs N (words_in st) (words_in ins)
    unfolding outputs_of run_outputs
    run_outputs_lem o =
        members_map (row_test Outputs N) (size N) o (λ v. get_or w₃ v 0)
        ∙ select_same (row_test Outputs N) (λ v. get_or w₃ v 0) (λ v. get_or (words N (words_in st) (words_in ins)) v 0) (size N) (λ v h t. run_words v h)

    pub run_state_lem : next_state N (words_in st) w₃ ≡ run_state N (words_in st) (words_in ins)
    unfolding next_state run_state Sourced
    run_state_lem =
        select_same (λ v. holds_word (element_at N v)) (λ v. holds_next (contents_now N (words_in st) v) (element_at N v) (λ p. get_or w₃ (source N v p) 0))
        (λ v. holds_next (contents_now N (words_in st) v) (element_at N v) (λ p. get_or (words N (words_in st) (words_in ins)) (source N v p) 0)) (size N)
        (λ v h t. next_same (contents_now N (words_in st) v) (λ p. get_or w₃ (source N v p) 0) (λ p. get_or (words N (words_in st) (words_in ins)) (source N v p) 0) (element_at N v)
        (λ y. run_words (source N v 0) (wf.sourced v 0 h (holder_reads (element_at N v) y))))
