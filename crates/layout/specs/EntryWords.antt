-- The words of the entries, and 0 behind them. Assumes nothing.
use Rattle.std.specs.Prelude.{◌≡◌, List, ◌++◌, ℕ, ◌+◌, ◌-◌, ◌≤◌, ◌<◌, length, get_or, drop, replicate}
use Rattle.std.proofs.Common.{sym, ap, ◌∙◌, arith, get_or-append-add, get_or-drop}
use Rattle.std.proofs.lemmas.List.{get_or-replicate}
use Rattle.std.proofs.Math.ListN.{get_or-append}
use Rattle.lists.specs.Sections.{section}
use Rattle.lists.proofs.Sections.{section-read}
use Rattle.plan.specs.Areas.{words_in}

pub record EntryWords (words : List ℕ) (entries : ℕ) (found : List ℕ) : Type 0 where
  pub entry : (i : ℕ) → i < entries → get_or found i 0 ≡ get_or words i 0
  pub behind : (i : ℕ) → entries ≤ i → i < 1024 → get_or found i 0 ≡ 0

-- they are copied over an area of 0
pub entry-words : (plan : List ℕ) {entries n : ℕ} {part zeros : List ℕ} → entries ≤ 1024 → n ≡ 1024 → zeros ≡ replicate n 0 → part ≡ section 1024 (1024 + entries - 1024) plan
    → length part ≡ entries → EntryWords (words_in plan) entries (part ++ drop entries zeros)
entry-words plan {entries} {n} {part} {zeros} few size none same long = record {
  entry = λ i h.
      get_or-append part (drop entries zeros) 0 i (omega arith)
      ∙ ap (λ (l : List ℕ). get_or l i 0) same ∙ section-read 1024 (1024 + entries - 1024) plan i (omega arith) ∙ sym (section-read 1024 1024 plan i (omega arith));
  behind = λ i h l.
      let m : ℕ = i - entries in
      let a : i ≡ length part + m = omega arith in
      let b : entries + m < n = omega arith in
      ap (λ (k : ℕ). get_or (part ++ drop entries zeros) k 0) a
      ∙ get_or-append-add part (drop entries zeros) m 0 ∙ get_or-drop entries zeros m 0 ∙ ap (λ (l : List ℕ). get_or l (entries + m) 0) none ∙ get_or-replicate n (entries + m) 0 0 b;
}
