-- The outcome of reset and run over a netlist, by the tests that the code makes. Assumes nothing.
use mathlib.Core.Path.{◌≡◌, refl, sym, ap, ◌∙◌}
use mathlib.Core.Bool.{Bool, true, false, cond, ◌&&◌}
use mathlib.Core.List.{List}
use Prim.Native.Nat.{ℕ, ◌*◌, ◌≤◌, ◌<◌}
use native.Mathlib.Omega.{arith}
use lib.ListN.{length, get_or, take}
use lib.Seq.{length-take-le}
use borrow.Author.Tests.{eq-eqb, ne_eqb}
use Rattle.lists.proofs.BelowLaws.{and_left, eqb-true}
use Rattle.netlist.specs.Net.{Net, size}
use Rattle.netlist.specs.Verdict.{Verdict, Fine, Refuses}
use Rattle.behaviour.specs.Runs.{input_widths, output_widths, state_widths, fitting}
use Rattle.behaviour.specs.Service.{words_in, room_for, fitting_bytes, reset_by, reset_net, Ran, run_by, run_net}
use Rattle.evaluate.specs.Rows.{row_test, row_members, row_widths, row_count}
use Rattle.lists.proofs.SelectLaws.{member}
use Rattle.evaluate.specs.declared.Row.{Row}
use Rattle.evaluate.specs.declared.Row.TheVariants.{Inputs, Outputs, State}

-- ---- a row's length

-- a part has the length that it is cut to
pub counted : {k : ℕ} (l : List ℕ) → k ≤ length l → k ≡ length (take k l)
counted {k} l h = sym (length-take-le k l h)

pub row_bytes_lem : {n k : ℕ} (l : List ℕ) → k ≤ length l → n ≡ 2 * k → n ≡ 2 * length (take k l)
row_bytes_lem l h e = e ∙ ap (2 *◌) (counted l h)

-- the first k of a work area are a row's members
module _ (N : Net) (row : Row) {k : ℕ} (l : List ℕ) (members : take k l ≡ row_members row N) (few : k ≤ length l) (b : List ℕ) where
  words : length (row_widths row N) ≡ k
  words = sym (counted l few ∙ row_count row N members)

  pub row_room : length b ≡ 2 * k → room_for (row_widths row N) b ≡ true
  row_room h = eq-eqb (length b) (2 * length (row_widths row N)) (omega (arith, words))

  pub row_other : (length b ≡ 2 * k → ⊥) → room_for (row_widths row N) b ≡ false
  row_other d = ne_eqb (length b) (2 * length (row_widths row N)) (λ h. d (omega (arith, words)))

  pub row_length : fitting_bytes (row_widths row N) b ≡ true → length b ≡ 2 * k
  row_length t =
      let h : length b ≡ 2 * length (row_widths row N) = eqb-true (and_left (room_for (row_widths row N) b) (fitting (row_widths row N) (words_in b)) t) in
      omega (arith, words)

-- its members are nodes
pub row_near : (N : Net) (row : Row) {l : List ℕ} → l ≡ row_members row N → size N ≤ 1024 → (j : ℕ) → j < length l → get_or l j 0 < 1024
row_near N row e few j h = omega (arith, (member (row_test row N) (size N) e h refl).low)

-- ---- reset

module _ (N : Net) (st : List ℕ) where
  pub reset_done : room_for (row_widths State N) st ≡ true → reset_net N st ≡ reset_by Fine N st
  unfolding reset_net state_widths
  reset_done t = ap (λ (b : Bool). reset_by (cond b Fine (Refuses 16 65535)) N st) t

  pub reset_refused : room_for (row_widths State N) st ≡ false → reset_net N st ≡ reset_by (Refuses 16 65535) N st
  unfolding reset_net state_widths
  reset_refused t = ap (λ (b : Bool). reset_by (cond b Fine (Refuses 16 65535)) N st) t

-- ---- run

module _ (N : Net) (st ins outs : List ℕ) where
  abbrev by : Verdict → Ran
  by v = run_by v N st ins outs

  by_tests : {a b c : Bool} → fitting_bytes (row_widths Inputs N) ins ≡ a → room_for (row_widths Outputs N) outs ≡ b → fitting_bytes (row_widths State N) st ≡ c
      → run_net N st ins outs ≡ by (cond (a && b) (cond c Fine (Refuses 16 65535)) (Refuses 15 65535))
  unfolding run_net input_widths output_widths state_widths
  by_tests p q r = λ i. by (cond (p i && q i) (cond (r i) Fine (Refuses 16 65535)) (Refuses 15 65535))

  pub run_inputs : fitting_bytes (row_widths Inputs N) ins ≡ false → run_net N st ins outs ≡ by (Refuses 15 65535)
  run_inputs p = by_tests p refl refl

  pub run_room : fitting_bytes (row_widths Inputs N) ins ≡ true → room_for (row_widths Outputs N) outs ≡ false → run_net N st ins outs ≡ by (Refuses 15 65535)
  run_room p q = by_tests p q refl

  pub run_refused : fitting_bytes (row_widths Inputs N) ins ≡ true → room_for (row_widths Outputs N) outs ≡ true → fitting_bytes (row_widths State N) st ≡ false → run_net N st ins outs ≡ by (Refuses 16 65535)
  run_refused p q r = by_tests p q r

  pub run_done : fitting_bytes (row_widths Inputs N) ins ≡ true → room_for (row_widths Outputs N) outs ≡ true → fitting_bytes (row_widths State N) st ≡ true → run_net N st ins outs ≡ by Fine
  run_done p q r = by_tests p q r
