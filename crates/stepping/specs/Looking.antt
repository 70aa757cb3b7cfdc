-- What was read for the next state becomes the next state, from the first line on: a register's stays, a clocked ROM's is looked up. Assumes nothing.
use Rattle.std.specs.Prelude.{◌≡◌, refl, ◌⊎◌, List, ℕ, ◌+◌, ◌-◌, ◌^◌, ◌≤◌, ◌<◌, length, get_or, set}
use Rattle.std.proofs.Common.{sym, ap, subst, ◌∙◌, inl, ⊎_elim, arith, length-set, get_or-set_same, get_or-set_other}
use Rattle.std.proofs.Math.Decide.{ℕ_discrete}
use Rattle.lists.proofs.BelowLaws.{lt_or_le}
use Rattle.netlist.specs.Net.{no_table, spelled, Net}
use Rattle.netlist.specs.Checks.{WellFormed}
use Rattle.schedule.specs.declared.Sizes.{Sizes}
use Rattle.schedule.specs.Lines.{code_on, run_end, place_on, held_on, Scheduled}
use Rattle.stepping.specs.Step.{line_next, FitTo, OnHolder}
use Rattle.stepping.specs.NextLaws.{next_register, next_asks, next_rom, holder_near, holder_line, next_line_same}
use Rattle.stepping.specs.Putting.{Put}

-- behind the places stands what registers and clocked ROMs read
abbrev pub Read : List ℕ → Sizes → List ℕ → Type 0
Read l z ws = (j : ℕ) → j < z.held → get_or ws (2048 + j) 0 ≡ get_or ws (place_on l (z.inputs + j) 0) 0

-- of so many lines from a place on, the next words of those before i are there, and what was read for the others
pub record Looked (N : Net) (l : List ℕ) (from held : ℕ) (before after : List ℕ) (i : ℕ) : Type 0 where
  pub kept : length after ≡ length before
  pub done : (j : ℕ) → j < held → from + j < i → get_or after (2048 + j) 0 ≡ line_next N l before (from + j)
  pub left : (j : ℕ) → j < held → i ≤ from + j → get_or after (2048 + j) 0 ≡ get_or before (2048 + j) 0
  pub others : (u : ℕ) → (u < 2048) ⊎ (2048 + held ≤ u) → get_or after u 0 ≡ get_or before u 0

pub looked_none : {N : Net} {l ws : List ℕ} {from held : ℕ} → Looked N l from held ws ws from
looked_none = record { kept = refl; done = λ j h k. absurd (omega arith); left = λ j h k. refl; others = λ u h. refl }

module _ {N : Net} {l before after : List ℕ} (z : Sizes) {i : ℕ} (t : Looked N l z.inputs z.held before after i) where
  pub looked_all : z.inputs + z.held ≤ i → Put 2048 z.held (λ j. line_next N l before (z.inputs + j)) before after
  looked_all h = record { kept = t.kept; each = λ j k. t.done j k (omega arith); others = t.others }

  module _ (s : Scheduled N l z) (fit : FitTo N l before z.lines) (room : 3072 ≤ length before) (read : Read l z before) where
    -- line i is a register's, and so are those of its run
    pub looked_run : i < z.lines → code_on l i ≡ 2 → {e : ℕ} → e ≡ run_end l i → Looked N l z.inputs z.held before after e
    looked_run h is {e} q = record {
      kept = t.kept;
      done = λ j k m. ⊎_elim (t.done j k) (λ low. t.left j k low ∙ read j k ∙ own j k low m) (lt_or_le (z.inputs + j) i);
      left = λ j k m. t.left j k (omega (arith, (s.runs i h).0.some));
      others = t.others;
    }
      where
        own : (j : ℕ) → j < z.held → i ≤ z.inputs + j → z.inputs + j < e → get_or before (place_on l (z.inputs + j) 0) 0 ≡ line_next N l before (z.inputs + j)
        own j k low m = next_register (holder_line s j k before (omega arith) fit) refl refl ((s.runs i h).0.alike (z.inputs + j) low (omega arith) ∙ is)

    -- it is a clocked ROM's: c is its code, m its table's number, a the address, at where that stands
    module _ {c m a at : ℕ} (low : z.inputs ≤ i) (h : i < z.inputs + z.held) (k : c ≡ code_on l i) (not : c ≡ 2 → ⊥) (q : m ≡ held_on l i) (e : a ≡ get_or after at 0)
        (there : at ≡ 2048 + i - z.inputs) (wf : WellFormed N) where
      abbrev j : ℕ
      j = i - z.inputs

      here : z.inputs + j ≡ i
      here = omega arith

      own_place : at ≡ 2048 + j
      own_place = omega arith

      holder : OnHolder N l before i
      holder = subst (λ (u : ℕ). OnHolder N l before u) here (holder_line s j (omega arith) before (omega arith) fit)

      address : a ≡ get_or before (place_on l i 0) 0
      address =
          e ∙ ap (λ (u : ℕ). get_or after u 0) own_place ∙ t.left j (omega arith) (omega arith) ∙ read j (omega arith)
          ∙ ap (λ (u : ℕ). get_or before (place_on l u 0) 0) here

      pub look_asks : (m < length N.tables) × (a < 2 ^ (get_or N.tables m no_table).bits)
      look_asks = next_asks holder refl k wf not q address

      -- and its word is put there
      pub looked_more : {x : ℕ} → x ≡ get_or (spelled (get_or N.tables m no_table)) a 0 → z.held ≤ 1024 → Looked N l z.inputs z.held before (set after at x) (i + 1)
      looked_more {x} g few = record {
        kept = length-set after at x ∙ t.kept;
        done = λ u b n. elim (ℕ_discrete u j) [
          | yes y ↦ ap (λ (v : ℕ). get_or (set after at x) v 0) (ap (2048 +◌) y ∙ sym own_place) ∙ get_or-set_same after at x 0 (omega (arith, t.kept))
              ∙ next_rom holder refl k wf not q address g ∙ ap (λ (v : ℕ). line_next N l before v) (sym here ∙ ap (z.inputs +◌) (sym y))
          | no d ↦ other (2048 + u) (λ y. d (omega arith)) ∙ t.done u b (omega (arith, d))
        ];
        left = λ u b n. other (2048 + u) (λ y. omega arith) ∙ t.left u b (omega arith);
        others = λ u b. other u (λ y. ⊎_elim (λ n. omega arith) (λ n. omega arith) b) ∙ t.others u b;
      }
        where
          other : (u : ℕ) → (u ≡ at → ⊥) → get_or (set after at x) u 0 ≡ get_or after u 0
          other u d = get_or-set_other after at u x 0 d

-- ---- both passes

module _ {N : Net} {l : List ℕ} {z : Sizes} (s : Scheduled N l z) {ws us : List ℕ} (a : Put 2048 z.held (λ j. get_or ws (place_on l (z.inputs + j) 0) 0) ws us) where
  pub read_is : Read l z us
  read_is j h = a.each j h ∙ sym (a.others (place_on l (z.inputs + j) 0) (inl (holder_near s j h)))

  places_same : (u : ℕ) → u < 2048 → get_or us u 0 ≡ get_or ws u 0
  places_same u h = a.others u (inl h)

  pub read_fits : FitTo N l ws z.lines → FitTo N l us z.lines
  read_fits fit j h = rw (places_same j (omega (arith, s.few))) (fit j h)

  pub next_put : {vs : List ℕ} → Put 2048 z.held (λ j. line_next N l us (z.inputs + j)) us vs → Put 2048 z.held (λ j. line_next N l ws (z.inputs + j)) ws vs
  next_put b = record {
    kept = b.kept ∙ a.kept;
    each = λ j h. b.each j h ∙ next_line_same s j h us ws places_same;
    others = λ u h. b.others u h ∙ a.others u h;
  }
