-- The lines of a list of nodes, with the places that they read from. They are put from the last one down, each over no word of those behind it.
-- Assumes nothing.
use Rattle.std.specs.Prelude.{◌≡◌, refl, ◌⊎◌, List, [], ◌∷◌, ◌++◌, ℕ, zero, suc, ◌+◌, ◌-◌, ◌*◌, ◌≤◌, ◌<◌, length, get_or, take, drop}
use Rattle.std.proofs.Common.{sym, ap, subst, ◌∙◌, ⊎_elim, arith}
use Rattle.lists.proofs.BelowLaws.{lt_or_le}
use Rattle.netlist.specs.Net.{Net, element_at, width_at, source}
use Rattle.circuit.specs.Code.{code_of}
use Rattle.schedule.specs.Filled.{filled-part, filled-behind}
use Rattle.schedule.specs.Lines.{part, code_on, run_end, asked_by, Holds, RunTo}

-- eight words are node v's line, its run's end aside
pub record Laid (N : Net) (places : List ℕ) (words : ℕ → ℕ) (v : ℕ) : Type 0 where
  pub node : words 7 ≡ v
  pub coded : words 0 ≡ code_of (element_at N v)
  pub wide : words 2 ≡ asked_by (element_at N v) (width_at N v) (width_at N (source N v 1))
  pub held : Holds (element_at N v) (words 6)
  pub placed : (p : ℕ) → p < 3 → words (3 + p) ≡ get_or places (source N v p) 0

-- from the words one by one
pub laid-words : {N : Net} {places : List ℕ} {v : ℕ} (c e w x : ℕ) {p₀ p₁ p₂ : ℕ} → c ≡ code_of (element_at N v) → w ≡ asked_by (element_at N v) (width_at N v) (width_at N (source N v 1))
    → Holds (element_at N v) x → p₀ ≡ get_or places (source N v 0) 0 → p₁ ≡ get_or places (source N v 1) 0 → p₂ ≡ get_or places (source N v 2) 0
    → Laid N places (λ k. get_or (c ∷ e ∷ w ∷ p₀ ∷ p₁ ∷ p₂ ∷ x ∷ v ∷ []) k 0) v
laid-words {N} {places} {v} c e w x {p₀} {p₁} {p₂} is wide held at₀ at₁ at₂ = record { node = refl; coded = is; wide = wide; held = held; placed = three }
  where
    three : (p : ℕ) → p < 3 → get_or (c ∷ e ∷ w ∷ p₀ ∷ p₁ ∷ p₂ ∷ x ∷ v ∷ []) (3 + p) 0 ≡ get_or places (source N v p) 0
    three zero h = at₀
    three (suc zero) h = at₁
    three (suc (suc zero)) h = at₂
    three (suc (suc (suc p))) h = absurd (omega arith)

-- words that are the same
pub laid_same : {N : Net} {places : List ℕ} {old new : ℕ → ℕ} {v : ℕ} → Laid N places old v → ((k : ℕ) → k < 8 → new k ≡ old k) → Laid N places new v
laid_same r e = record {
  node = e 7 (omega arith) ∙ r.node;
  coded = e 0 (omega arith) ∙ r.coded;
  wide = e 2 (omega arith) ∙ r.wide;
  held = rw (e 6 (omega arith)) r.held;
  placed = λ p h. e (3 + p) (omega arith) ∙ r.placed p h;
}

-- a run of code c that has come up to line i ends at e: there, or with line i's run, which has that code
abbrev pub RunsOn : List ℕ → ℕ → ℕ → ℕ → ℕ → Type 0
RunsOn l s i c e = (e ≡ i) ⊎ ((i < s) × (code_on l i ≡ c) × (e ≡ run_end l i))

-- line i is put
pub record LinePut (N : Net) (places before after : List ℕ) (s i v : ℕ) : Type 0 where
  pub laid : Laid N places (part after i) v
  pub run : RunsOn before s (i + 1) (code_on after i) (run_end after i)
  pub behind : (w : ℕ) → 8 * i + 8 ≤ w → get_or after w 0 ≡ get_or before w 0

-- its words are put over eight of the list
pub line_put : {N : Net} {places : List ℕ} {v : ℕ} (before words : List ℕ) (s i : ℕ) → Laid N places (λ k. get_or words k 0) v → RunsOn before s (i + 1) (get_or words 0 0) (get_or words 1 0)
    → length words ≡ 8 → 8 * i + 8 ≤ length before → LinePut N places before (take (8 * i) before ++ (words ++ drop (8 * i + 8 - 8 * i) (drop (8 * i) before))) s i v
line_put before words s i laid run eight room = record {
  laid = laid_same laid at;
  run = rw (at 0 (omega arith), at 1 (omega arith)) run;
  behind = λ w h. filled-behind before words rest (8 * i) (omega arith) (8 * i + 8 - 8 * i) refl (omega arith) (omega arith);
}
  where
    rest : List ℕ
    rest = drop (8 * i + 8 - 8 * i) (drop (8 * i) before)

    at : (k : ℕ) → k < 8 → get_or (take (8 * i) before ++ (words ++ rest)) (8 * i + k) 0 ≡ get_or words k 0
    at k h = filled-part before words rest (8 * i) (omega arith) k (omega arith)

-- the lines from i on below s are there, and their runs
pub record LaidFrom (N : Net) (nodes places l : List ℕ) (s i : ℕ) : Type 0 where
  pub lines : (j : ℕ) → i ≤ j → j < s → Laid N places (part l j) (get_or nodes j 0)
  pub runs : (j : ℕ) → i ≤ j → j < s → RunTo l j (run_end l j) × (run_end l j ≤ s)

pub laid_none : (N : Net) (nodes places l : List ℕ) (s : ℕ) → LaidFrom N nodes places l s s
laid_none N nodes places l s = record { lines = λ j a b. absurd (omega arith); runs = λ j a b. absurd (omega arith) }

-- they stay where their words stay
module _ {N : Net} {nodes places l : List ℕ} {s i : ℕ} (t : LaidFrom N nodes places l s i) (m : List ℕ) (same : (w : ℕ) → 8 * i ≤ w → w < 8 * s → get_or m w 0 ≡ get_or l w 0) where
  word : (j k : ℕ) → i ≤ j → j < s → k < 8 → part m j k ≡ part l j k
  word j k a b h = same (8 * j + k) (omega arith) (omega arith)

  pub laid_kept : LaidFrom N nodes places m s i
  laid_kept = record {
    lines = λ j a b. laid_same (t.lines j a b) (λ k h. word j k a b h);
    runs = λ j a b.
        let r = t.runs j a b in
        rw (word j 1 a b (omega arith)) (
          record {
            some = r.0.some;
            alike = λ k x y. word k 0 (omega arith) (omega (arith, r.1)) (omega arith) ∙ r.0.alike k x y ∙ sym (word j 0 a b (omega arith));
          },
          r.1,
        );
  }

-- and one line more
module _ {N : Net} {nodes places before after : List ℕ} {s i k : ℕ} (t : LaidFrom N nodes places before s i) (e : i ≡ k + 1) (h : k < s) (p : LinePut N places before after s k (get_or nodes k 0)) where
  abbrev ends : ℕ
  ends = run_end after k

  kept : LaidFrom N nodes places after s i
  kept = laid_kept t after (λ w a b. p.behind w (omega arith))

  itself : (j : ℕ) → k ≤ j → j < k + 1 → code_on after j ≡ code_on after k
  itself j a b = ap (code_on after) (let d : j ≡ k = omega arith in d)

  alone : ends ≡ k + 1 → RunTo after k ends × (ends ≤ s)
  alone q = (record { some = omega arith; alike = λ j a b. itself j a (omega arith) }, omega arith)

  joined : (k + 1 < s) × (code_on before (k + 1) ≡ code_on after k) × (ends ≡ run_end before (k + 1)) → RunTo after k ends × (ends ≤ s)
  joined (l, c, q) =
      let r = kept.runs (k + 1) (omega arith) l in
      let alike : code_on after (k + 1) ≡ code_on after k = p.behind (8 * (k + 1) + 0) (omega arith) ∙ c in
      let far : ends ≡ run_end after (k + 1) = q ∙ sym (p.behind (8 * (k + 1) + 1) (omega arith)) in (
        record {
          some = omega (arith, far, r.0.some);
          alike = λ j a b. ⊎_elim (λ x. itself j a x) (λ x. r.0.alike j x (omega (arith, far)) ∙ alike) (lt_or_le j (k + 1));
        },
        omega (arith, far, r.1),
      )

  run : RunTo after k ends × (ends ≤ s)
  run = ⊎_elim alone joined p.run

  pub laid_more : LaidFrom N nodes places after s k
  laid_more = record {
    lines = λ j a b. ⊎_elim (λ l. subst (λ (u : ℕ). Laid N places (part after u) (get_or nodes u 0)) (let d : k ≡ j = omega arith in d) p.laid) (λ l. kept.lines j l b) (lt_or_le j i);
    runs = λ j a b. ⊎_elim (λ l. subst (λ (u : ℕ). RunTo after u (run_end after u) × (run_end after u ≤ s)) (let d : k ≡ j = omega arith in d) run) (λ l. kept.runs j l b) (lt_or_le j i);
  }
