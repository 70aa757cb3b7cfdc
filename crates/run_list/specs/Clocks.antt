-- Clock follows clock: the state and the rows of outputs after i of them. Assumes nothing.
use Rattle.std.specs.Prelude.{◌≡◌, refl, true, take}
use Rattle.std.proofs.Math.Path.{sym, ap, ap₂}
use Rattle.std.proofs.Common.{◌∙◌, mul-zero, mul-suc, add-one, length-drop, take_at, drop_at, drop-drop}
use mathlib.Core.List.{List, ◌++◌, append-nil, append_assoc}
use Prim.Native.Nat.{ℕ, suc, ◌+◌, ◌-◌, ◌*◌, ◌/◌, ◌≤◌, ◌<◌}
use native.Mathlib.Omega.{arith}
use Rattle.std.proofs.Math.ListN.{length, drop, length-append}
use Rattle.std.proofs.Math.Seq.{drop-length}
use Rattle.lists.specs.Lists.{below, concat_map}
use Rattle.lists.proofs.BelowLaws.{and_left, and_right, eqb-true, get_or_listed}
use Rattle.lists.proofs.ListsLaws.{length-select}
use Rattle.lists.proofs.SelectLaws.{concat-more}
use Rattle.lists.proofs.Sections.{section-length}
use Rattle.words.specs.Words.{word}
use Rattle.netlist.specs.Net.{Net, size, width_at}
use Rattle.netlist.specs.Checks.{WellFormed}
use Rattle.behaviour.specs.Run.{run_outputs, run_state}
use Rattle.behaviour.specs.Runs.{input_widths, output_widths, state_widths, fitting}
use Rattle.behaviour.specs.Service.{bytes_of, words_in, room_for, fitting_bytes}
use Rattle.behaviour.proofs.WordBytes.{length-bytes, length_words_in, words_of_bytes, fitting-bytes}
use Rattle.behaviour.proofs.Only15.{outputs_long}
use Rattle.behaviour.specs.RunList.{row_bytes, byte_row, room_for_rows, fitting_rows}
use Rattle.behaviour.specs.RunListLaws.{states_from, row_words}
use Rattle.behaviour.proofs.RunListLaws.{state_from_fits}
use Rattle.evaluate.specs.Rows.{row_test}
use Rattle.evaluate.specs.declared.Row.TheVariants.{Inputs, Outputs, State}
use Rattle.schedule.specs.declared.Sizes.{Sizes}
use Rattle.schedule.specs.Lines.{Scheduled}
use Rattle.stepping.specs.Putting.{Put, put_at, put-section}
use Rattle.stepping.specs.Clock.{state_in}
use Rattle.run_list.specs.Rows.{row_inside, row_part}

-- what clock i shows, from the state st and the rows ins
abbrev pub shown_at : Net → List ℕ → List ℕ → ℕ → List ℕ
shown_at N st ins i = bytes_of (run_outputs N (states_from N st (row_words N ins) i) (row_words N ins i))

-- i clocks are done: the state now, and the outputs, the rest of which is as it was
pub record Clocked (N : Net) (st ins before : List ℕ) (i : ℕ) (state outs : List ℕ) : Type 0 where
  pub state_is : state ≡ states_from N st (row_words N ins) i
  pub outs_are : outs ≡ concat_map (shown_at N st ins) (below i) ++ drop (row_bytes (output_widths N) * i) before
  pub done_long : length (concat_map (shown_at N st ins) (below i)) ≡ row_bytes (output_widths N) * i

module _ (N : Net) (st ins before : List ℕ) where
  abbrev r : ℕ
  r = row_bytes (output_widths N)

  abbrev done : ℕ → List ℕ
  done i = concat_map (shown_at N st ins) (below i)

  pub clocked_none : Clocked N st ins before 0 st before
  unfolding states_from
  clocked_none = record { state_is = refl; outs_are = ap (λ (k : ℕ). drop k before) (sym (mul-zero r)); done_long = sym (mul-zero r) }

  module _ {i : ℕ} {state outs : List ℕ} (t : Clocked N st ins before i state outs) where
    -- the outputs are as many as they were
    pub clocked_length : r * i ≤ length before → length outs ≡ length before
    clocked_length h = ap length t.outs_are ∙ length-append (done i) (drop (r * i) before) ∙ omega (arith, t.done_long, length-drop (r * i) before)

    pub clocked_all : {clocks : ℕ} → i ≡ clocks → length before ≡ row_bytes (output_widths N) * clocks
        → (outs ≡ concat_map (shown_at N st ins) (below clocks)) × (state ≡ states_from N st (row_words N ins) clocks)
    clocked_all {clocks} e h =
        let all : r * i ≡ length before = ap (r *◌) e ∙ sym h in (
          t.outs_are ∙ ap₂ (λ (k j : ℕ). done k ++ drop j before) e all ∙ ap (done clocks ++◌) (drop-length before) ∙ append-nil (done clocks),
          t.state_is ∙ ap (states_from N st (row_words N ins)) e,
        )

    -- one clock more: at is where its row of outputs begins, and e its end; w are its input words
    module _ {state' ys w : List ℕ} {at e : ℕ} (row : w ≡ row_words N ins i) (next : state' ≡ run_state N state w) (shown : ys ≡ bytes_of (run_outputs N state w))
        (from : at ≡ r * i) (to : e ≡ at + r) where
      row_is : ys ≡ shown_at N st ins i
      row_is = shown ∙ ap₂ (λ (s x : List ℕ). bytes_of (run_outputs N s x)) t.state_is row

      before_it : take at outs ≡ done i
      before_it = ap (take at) t.outs_are ∙ take_at (done i) (drop (r * i) before) at (t.done_long ∙ sym from)

      behind_it : drop (e - at) (drop at outs) ≡ drop (r * (i + 1)) before
      behind_it =
          let k : e - at ≡ r = omega arith in
          let j : r * i + r ≡ r * (i + 1) = sym (mul-suc r i) ∙ ap (r *◌) (sym (add-one i)) in
          ap₂ (λ (a : ℕ) (l : List ℕ). drop a l) k (ap (drop at) t.outs_are ∙ drop_at (done i) (drop (r * i) before) at (t.done_long ∙ sym from))
          ∙ drop-drop r (r * i) before ∙ ap (λ (a : ℕ). drop a before) j

      pub clocked_more : length (shown_at N st ins i) ≡ row_bytes (output_widths N) → Clocked N st ins before (i + 1) state' (take at outs ++ (ys ++ drop (e - at) (drop at outs)))
      unfolding states_from
      clocked_more long = record {
        state_is =
            next ∙ ap₂ (λ (s x : List ℕ). run_state N s x) t.state_is row ∙ ap (states_from N st (row_words N ins)) (let j : suc i ≡ i + 1 = omega arith in j);
        outs_are =
            (λ k. before_it k ++ (row_is k ++ behind_it k)) ∙ sym (append_assoc (done i) (shown_at N st ins i) (drop (r * (i + 1)) before))
            ∙ ap (λ (l : List ℕ). l ++ drop (r * (i + 1)) before) (sym (concat-more (shown_at N st ins) i));
        done_long =
            ap length (concat-more (shown_at N st ins) i) ∙ length-append (done i) (shown_at N st ins i) ∙ ap₂ ◌+◌ t.done_long long
            ∙ sym (mul-suc r i) ∙ ap (r *◌) (sym (add-one i));
      }

-- ---- what a clock of the list asks for

-- a schedule's rows
pub scheduled_rows : {N : Net} {l : List ℕ} {z : Sizes} → Scheduled N l z → (2 * z.inputs ≡ row_bytes (input_widths N)) × (2 * z.outputs ≡ row_bytes (output_widths N))
unfolding input_widths output_widths
scheduled_rows {N} t = (
  ap (2 *◌) (t.all_ports ∙ sym (length-select (row_test Inputs N) (λ v. width_at N v) (size N))),
  ap (2 *◌) (t.all_outputs ∙ sym (length-select (row_test Outputs N) (λ v. width_at N v) (size N))),
)

-- where the rows of clock i lie: from is where its inputs begin, to its outputs
module _ {N : Net} {l : List ℕ} {z : Sizes} (s : Scheduled N l z) (clocks : ℕ) {i : ℕ} (y : i < clocks) where
  module _ (ins : List ℕ) (rows : fitting_rows clocks (input_widths N) ins ≡ true) {from : ℕ} (e : from ≡ row_bytes (input_widths N) * i) where
    inside : row_bytes (input_widths N) * i + row_bytes (input_widths N) ≤ length ins
    inside = row_inside (input_widths N) ins clocks i y (eqb-true (and_left (room_for_rows clocks (input_widths N) ins) _ rows))

    pub input_end : from + 2 * z.inputs ≤ length ins
    input_end = omega (arith, inside, (scheduled_rows s).0)

    pub input_row : take (from + 2 * z.inputs - from) (drop from ins) ≡ byte_row (row_bytes (input_widths N)) ins i
    input_row = row_part (row_bytes (input_widths N)) ins i e (ap (from +◌) (scheduled_rows s).0)

    pub input_long : length (take (from + 2 * z.inputs - from) (drop from ins)) ≡ 2 * z.inputs
    input_long = ap length input_row ∙ section-length (row_bytes (input_widths N) * i) (row_bytes (input_widths N)) ins inside ∙ sym (scheduled_rows s).0

  module _ (before : List ℕ) (room : room_for_rows clocks (output_widths N) before ≡ true) where
    there : row_bytes (output_widths N) * i + row_bytes (output_widths N) ≤ length before
    there = row_inside (output_widths N) before clocks i y (eqb-true room)

    pub output_end : {to : ℕ} → to ≡ row_bytes (output_widths N) * i → to + 2 * z.outputs ≤ length before
    output_end e = omega (arith, there, (scheduled_rows s).1)

    pub output_room : (st ins : List ℕ) {state outs : List ℕ} → Clocked N st ins before i state outs → length outs ≡ length before
    output_room st ins t = clocked_length N st ins before t (omega (arith, there))

module _ (N : Net) (wf : WellFormed N) (st ins : List ℕ) (clocks : ℕ) (rows : fitting_rows clocks (input_widths N) ins ≡ true) (fit : fitting (state_widths N) st ≡ true) where
  pub clocked_fits : {before : List ℕ} {i : ℕ} {state outs : List ℕ} → Clocked N st ins before i state outs → i ≤ clocks → fitting (state_widths N) state ≡ true
  clocked_fits {i = i} t h = rw t.state_is (rw (words_of_bytes st) at (state_from_fits N ins clocks rows wf (bytes_of st) (fitting-bytes (state_widths N) st ∙ fit) i h))

  pub shown_long : (i : ℕ) → length (shown_at N st ins i) ≡ row_bytes (output_widths N)
  shown_long i = length-bytes (run_outputs N (states_from N st (row_words N ins) i) (row_words N ins i)) ∙ ap (2 *◌) (outputs_long N wf (states_from N st (row_words N ins) i) (row_words N ins i))

-- the state, as it is lent and at its places
module _ (st : List ℕ) {N : Net} {l : List ℕ} {z : Sizes} (t : Scheduled N l z) (f : fitting_bytes (state_widths N) st ≡ true) where
  pub state_bytes_lem : length st ≡ 2 * z.held
  unfolding state_widths
  state_bytes_lem = eqb-true (and_left (room_for (state_widths N) st) _ f) ∙ ap (2 *◌) (length-select (row_test State N) (λ v. width_at N v) (size N) ∙ sym t.all_holders)

  module _ {ws us : List ℕ} (a : Put z.inputs (length st / 2) (λ j. word st (2 * j)) ws us) (long : 2048 ≤ length ws) where
    pub state_put : state_in z us ≡ words_in st
    state_put =
        let h : length st / 2 ≡ z.held = omega (arith, state_bytes_lem) in
        put-section (put_at a h) (omega (arith, t.front, t.few)) (words_in st) (length_words_in st ∙ h)
        (λ j k. sym (get_or_listed (λ i. word st (2 * i)) (length st / 2) j 0 (omega arith)))

    pub state_fits_lem : fitting (state_widths N) (state_in z us) ≡ true
    state_fits_lem = rw state_put (and_right (room_for (state_widths N) st) _ f)
