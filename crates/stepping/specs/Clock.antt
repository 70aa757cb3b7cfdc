-- A clock over a schedule: from the input words and the state at their places, the lines give the words of the clock; so the output words and the next state
-- are those of the netlist. Assumes nothing.
use Rattle.std.specs.Prelude.{◌≡◌, refl, true, ℕ, zero, suc, ◌+◌, ◌-◌, ◌*◌, ◌/◌, ◌^◌, ◌≤◌, ◌<◌}
use Rattle.std.proofs.Math.Path.{sym, ap, subst}
use Rattle.std.proofs.Common.{◌∙◌, inr, zero-add}
use Rattle.std.proofs.Math.Logic.{⊎_elim}
use Rattle.std.proofs.lemmas.Bool.{false≢true}
use mathlib.Core.List.{List, map}
use native.Mathlib.Omega.{arith}
use Rattle.std.proofs.Math.ListN.{length, get_or, length-map}
use Rattle.std.proofs.Math.Seq.{ext_get_or}
use Rattle.lists.proofs.BelowLaws.{lt_or_le, get_or_listed, get_or_map-lt}
use Rattle.lists.proofs.ListsLaws.{length-select}
use Rattle.lists.proofs.SelectLaws.{some_member, select_at}
use Rattle.lists.specs.Sections.{section}
use Rattle.lists.proofs.Sections.{section-length, section-read}
use Rattle.words.specs.Words.{word}
use Rattle.netlist.specs.declared.Element.{Element}
use Rattle.netlist.specs.declared.Element.TheVariants.{Input, Output, Register, Async, Clocked, Gate}
use Rattle.netlist.specs.Net.{Net, size, element_at, width_at, source, within_few, contents_at, is_input, is_output, holds_word, port_of, outputs_of}
use Rattle.netlist.specs.Checks.{WellFormed}
use Rattle.behaviour.specs.Run.{gives_now, holds_next, holder_of, contents_now, again, words, next_state, run_outputs, run_state}
use Rattle.behaviour.proofs.Run.{contents_now_lem}
use Rattle.behaviour.specs.Runs.{input_widths, state_widths, fitting}
use Rattle.behaviour.specs.Service.{words_in}
use Rattle.behaviour.proofs.Settled.{settled}
use Rattle.behaviour.proofs.ClockFits.{PortsFit, ports_fit, HoldersFit, holders_fit}
use Rattle.evaluate.specs.Rows.{row_test}
use Rattle.evaluate.specs.declared.Row.TheVariants.{Outputs, State}
use Rattle.evaluate.specs.Next.{holder_reads, next_same}
use Rattle.evaluate.specs.Settling.{now_same}
use Rattle.schedule.specs.declared.Sizes.{Sizes}
use Rattle.schedule.specs.Lines.{outputs_from, place_on, node_on, Scheduled}
use Rattle.stepping.specs.Step.{line_word, line_next, FitTo, Stepped}
use Rattle.stepping.specs.StepLaws.{inner_new}
use Rattle.stepping.specs.Putting.{Put, put-section}

-- the state, from a row of words; and where the output ports read
abbrev pub state_in : Sizes → List ℕ → List ℕ
state_in z ws = section z.inputs z.held ws

abbrev pub outputs_in : Sizes → List ℕ → List ℕ
outputs_in z l = section outputs_from z.outputs l

-- the input words and the state stand at their places, and fit
pub record Ready (N : Net) (z : Sizes) (st ins ws : List ℕ) : Type 0 where
  pub ports : (j : ℕ) → j < z.inputs → get_or ws j 0 ≡ get_or ins j 0
  pub holders : (j : ℕ) → j < z.held → get_or ws (z.inputs + j) 0 ≡ get_or st j 0
  pub ports_fit : PortsFit N ins
  pub holders_fit : HoldersFit N st

-- ---- what is loaded, and an output port

module _ (M : List ℕ) (w : ℕ) (ws : ℕ → ℕ) (i h : ℕ) (d : ℕ → ℕ) where
  input_gives : (e : Element) → is_input e ≡ true → gives_now M e w ws i h d ≡ i
  input_gives Input y = refl
  input_gives Output y = absurd (false≢true y)
  input_gives (Register r) y = absurd (false≢true y)
  input_gives (Async m) y = absurd (false≢true y)
  input_gives (Clocked m r) y = absurd (false≢true y)
  input_gives (Gate o) y = absurd (false≢true y)

  holder_gives : (e : Element) → holds_word e ≡ true → gives_now M e w ws i h d ≡ h
  holder_gives Input y = absurd (false≢true y)
  holder_gives Output y = absurd (false≢true y)
  holder_gives (Register r) y = refl
  holder_gives (Async m) y = absurd (false≢true y)
  holder_gives (Clocked m r) y = refl
  holder_gives (Gate o) y = absurd (false≢true y)

  output_gives : (e : Element) → is_output e ≡ true → gives_now M e w ws i h d ≡ d 0
  output_gives Input y = absurd (false≢true y)
  output_gives Output y = refl
  output_gives (Register r) y = absurd (false≢true y)
  output_gives (Async m) y = absurd (false≢true y)
  output_gives (Clocked m r) y = absurd (false≢true y)
  output_gives (Gate o) y = absurd (false≢true y)

module _ {N : Net} {l : List ℕ} {z : Sizes} (wf : WellFormed N) (t : Scheduled N l z) {st ins ws : List ℕ} (r : Ready N z st ins ws) where
  abbrev first : ℕ
  first = z.inputs + z.held

  abbrev now : ℕ → ℕ
  now v = get_or (words N st ins) v 0

  abbrev wide : ℕ → ℕ → ℕ
  wide v p = width_at N (source N v p)

  -- ---- the words that are loaded

  port_word : (j : ℕ) → j < z.inputs → get_or ws j 0 ≡ now (node_on l j)
  unfolding again port_of
  port_word j h =
      let m = t.ports j h in
      let v = node_on l j in
      r.ports j h ∙ ap (λ (k : ℕ). get_or ins k 0) (sym m.place)
      ∙ sym (settled N wf st ins v m.low ∙ input_gives (contents_now N st v) (width_at N v) (wide v) (get_or ins (port_of N v) 0) (get_or st (holder_of N v) 0) (λ p. now (source N v p)) (element_at N v) m.on)

  holder_word : (j : ℕ) → j < z.held → get_or ws (z.inputs + j) 0 ≡ now (node_on l (z.inputs + j))
  unfolding again holder_of
  holder_word j h =
      let m = t.holders j h in
      let v = node_on l (z.inputs + j) in
      r.holders j h ∙ ap (λ (k : ℕ). get_or st k 0) (sym m.place)
      ∙ sym (settled N wf st ins v m.low ∙ holder_gives (contents_now N st v) (width_at N v) (wide v) (get_or ins (port_of N v) 0) (get_or st (holder_of N v) 0) (λ p. now (source N v p)) (element_at N v) m.on)

  pub ready_fit : FitTo N l ws (z.inputs + z.held)
  unfolding PortsFit HoldersFit port_of holder_of
  ready_fit j h = ⊎_elim port (λ k. subst (λ (i : ℕ). get_or ws i 0 < 2 ^ width_at N (node_on l i)) (let e : z.inputs + (j - z.inputs) ≡ j = omega arith in e) (holder (j - z.inputs) (omega arith))) (lt_or_le j z.inputs)
    where
      port : j < z.inputs → get_or ws j 0 < 2 ^ width_at N (node_on l j)
      port k = let m = t.ports j k in rw (r.ports j k) (subst (λ (i : ℕ). get_or ins i 0 < 2 ^ width_at N (node_on l j)) m.place (r.ports_fit (node_on l j) m.low m.on))

      holder : (i : ℕ) → i < z.held → get_or ws (z.inputs + i) 0 < 2 ^ width_at N (node_on l (z.inputs + i))
      holder i k =
          let m = t.holders i k in
          let v = node_on l (z.inputs + i) in
          rw (r.holders i k) (subst (λ (u : ℕ). get_or st u 0 < 2 ^ width_at N v) m.place (r.holders_fit v m.low m.on))

  -- ---- the words of the clock

  module _ {us : List ℕ} (s : Stepped N l (z.inputs + z.held) z.lines ws us) where
    loaded_right : (i : ℕ) → i < first → get_or us i 0 ≡ now (node_on l i)
    loaded_right i h =
        s.others i h
        ∙ ⊎_elim (port_word i) (λ k. subst (λ (u : ℕ). get_or ws u 0 ≡ now (node_on l u)) (let e : z.inputs + (i - z.inputs) ≡ i = omega arith in e) (holder_word (i - z.inputs) (omega arith)))
        (lt_or_le i z.inputs)

    line_right : (i : ℕ) → first ≤ i → i < z.lines → ((j : ℕ) → j < i → get_or us j 0 ≡ now (node_on l j)) → get_or us i 0 ≡ now (node_on l i)
    unfolding line_word again
    line_right i low h before =
        let v = node_on l i in
        let e = element_at N v in
        let n = t.inner_lines i low h in
        s.each i low h
        ∙ now_same (contents_at N v) (width_at N v) (wide v) 0 (get_or ins (port_of N v) 0) (get_or st (holder_of N v) 0) (λ p. get_or us (place_on l i p) 0) (λ p. now (source N v p)) e (inner_new e n.inner).0
        (λ p q. let b = n.behind p (omega (arith, within_few e)) in before (place_on l i p) b.0 ∙ ap now b.1)
        ∙ ap (λ (M : List ℕ). gives_now M e (width_at N v) (wide v) (get_or ins (port_of N v) 0) (get_or st (holder_of N v) 0) (λ p. now (source N v p))) (sym (contents_now_lem N st v))
        ∙ sym (settled N wf st ins v n.line.inside)

    right_below : (k i : ℕ) → i < k → i < z.lines → get_or us i 0 ≡ now (node_on l i)
    right_below zero i a h = absurd (omega arith)
    right_below (suc k) i a h = ⊎_elim (loaded_right i) (λ low. line_right i low h (λ j b. right_below k j (omega arith) (omega arith))) (lt_or_le i first)

    pub clock-word : (i : ℕ) → i < z.lines → get_or us i 0 ≡ get_or (words N st ins) (node_on l i) 0
    clock-word i h = right_below (suc i) i (omega arith) h

    -- THE OUTPUT WORDS
    pub clock_outputs : map (λ i. get_or us i 0) (outputs_in z l) ≡ run_outputs N st ins
    unfolding run_outputs outputs_of again
    clock_outputs =
        ext_get_or 0 _ _ (length-map (outputs_in z l) (λ i. get_or us i 0) ∙ long ∙ t.all_outputs ∙ sym (length-select (row_test Outputs N) now (size N)))
        (λ j h. at j (omega (arith, length-map (outputs_in z l) (λ i. get_or us i 0), long)))
      where
        long : length (outputs_in z l) ≡ z.outputs
        long = section-length outputs_from z.outputs l (omega (arith, t.room, t.few_outputs))

        output_word : (v : ℕ) → v < size N → is_output (element_at N v) ≡ true → now (source N v 0) ≡ now v
        output_word v h y =
            sym (settled N wf st ins v h ∙ output_gives (contents_now N st v) (width_at N v) (wide v) (get_or ins (port_of N v) 0) (get_or st (holder_of N v) 0) (λ p. now (source N v p)) (element_at N v) y)

        at : (j : ℕ) → j < z.outputs → get_or (map (λ i. get_or us i 0) (outputs_in z l)) j 0 ≡ get_or (run_outputs N st ins) j 0
        at j h =
            let m = some_member (row_test Outputs N) (size N) j (omega (arith, t.all_outputs)) in
            let o = t.outputs j m.0 m.1 in
            get_or_map-lt (λ i. get_or us i 0) (outputs_in z l) j 0 0 (omega (arith, long))
            ∙ ap (λ (i : ℕ). get_or us i 0) (section-read outputs_from z.outputs l j h)
            ∙ clock-word _ o.0 ∙ ap now o.1 ∙ output_word m.0 m.1.low m.1.on
            ∙ sym (select_at now 0 m.1)

    -- THE NEXT STATE
    pub clock_next : (j : ℕ) → j < z.held → line_next N l us (z.inputs + j) ≡ get_or (run_state N st ins) j 0
    unfolding line_next run_state next_state
    clock_next j h =
        let m = t.holders j h in
        let v = node_on l (z.inputs + j) in
        let e = element_at N v in
        let b = (t.holder_lines j h).1 0 (holder_reads e m.on) in
        next_same (contents_at N v) (λ p. get_or us (place_on l (z.inputs + j) p) 0) (λ p. now (source N v p)) e (λ y. clock-word _ b.0 ∙ ap now b.1)
        ∙ ap (λ (M : List ℕ). holds_next M e (λ p. now (source N v p))) (sym (contents_now_lem N st v))
        ∙ sym (select_at (λ u. holds_next (contents_now N st u) (element_at N u) (λ p. now (source N u p))) 0 m)

    pub state_long : length (run_state N st ins) ≡ z.held
    unfolding run_state next_state
    state_long = length-select (row_test State N) _ (size N) ∙ sym t.all_holders

    -- brought to the state's places, by way of the words behind all places
    pub clock_state : {vs xs : List ℕ} → Put 2048 z.held (λ j. line_next N l us (z.inputs + j)) us vs → Put z.inputs z.held (λ j. get_or vs (2048 + j) 0) vs xs → 2048 ≤ length us
        → state_in z xs ≡ run_state N st ins
    clock_state a b room =
        put-section b (omega (arith, a.kept, t.front, t.few)) (run_state N st ins) state_long (λ j h. a.each j h ∙ clock_next j h)

-- a row of inputs was put before the state
pub row_ready : {N : Net} {l : List ℕ} {z : Sizes} (b ws us : List ℕ) → Scheduled N l z → Put 0 (length b / 2) (λ j. word b (2 * j)) ws us → length b ≡ 2 * z.inputs
    → fitting (input_widths N) (words_in b) ≡ true → fitting (state_widths N) (state_in z ws) ≡ true → Ready N z (state_in z ws) (words_in b) us
row_ready {N} {z = z} b ws us t a e i h = record {
  ports = λ j k. ap (λ (u : ℕ). get_or us u 0) (sym (zero-add j)) ∙ a.each j (omega arith) ∙ sym (get_or_listed (λ j. word b (2 * j)) (length b / 2) j 0 (omega arith));
  holders = λ j k. a.others (z.inputs + j) (inr (omega arith)) ∙ sym (section-read z.inputs z.held ws j k);
  ports_fit = ports_fit N (words_in b) i;
  holders_fit = holders_fit N (state_in z ws) h;
}

-- the output ports read at places
pub outputs_near : {N : Net} {l : List ℕ} {z : Sizes} → Scheduled N l z → {k : ℕ} → k ≡ z.outputs → (j : ℕ) → j < length (section outputs_from k l) → get_or (section outputs_from k l) j 0 < 2048
outputs_near {N} {l} {z} t {k} e j h =
    let low : j < k = omega (arith, t.room, t.few_outputs, section-length outputs_from k l (omega (arith, t.room, t.few_outputs))) in
    let m = some_member (row_test Outputs N) (size N) j (omega (arith, t.all_outputs)) in
    omega (arith, section-read outputs_from k l j low, (t.outputs j m.0 m.1).0, t.few)
