-- Where a table stands in a file, or why there is none, and what is served from there. Assumes nothing.
use Rattle.std.specs.Prelude.{◌≡◌, List, [], ℕ, length, drop, Result, Ok, Err}
use Rattle.std.proofs.Common.{ap, ◌∙◌}
use Rattle.netlist.specs.Field.{tag_at, content}
use Rattle.netlist.specs.TableField.{stored_from}
use Rattle.netlist.specs.ScanLaws.{TableAt}
use Rattle.netlist.specs.File.{answer}
use Rattle.netlist.specs.declared.Answer.{Answer}
use Rattle.netlist.specs.declared.Refusal.{Refusal}
use Rattle.netlist.specs.Refusal.{said}
use Rattle.checks.specs.Services.{WordsAnswer, words_of_file}

-- whether a table stands at a place, and its stored words as bytes
abbrev pub Standing : List ℕ → Result ℕ Refusal → Type 0
Standing s (Ok at) = TableAt s at
Standing s (Err r) = Unit {0}

abbrev pub words_at : List ℕ → Result ℕ Refusal → List ℕ
words_at s (Ok at) = drop (stored_from (tag_at s at)) (content s at)
words_at s (Err r) = []

-- the place is that of table k
pub record Placed (s : List ℕ) (k : ℕ) (p : Result ℕ Refusal) : Type 0 where
  pub standing : Standing s p
  pub served : record { answer = answer (said p) (length (words_at s p)); words = words_at s p } ≡ words_of_file s k

-- words that stand at the place of table k, with the answer that goes with them
pub served_there : {s : List ℕ} {k : ℕ} {p : Result ℕ Refusal} → Placed s k p → {ws : List ℕ} → ws ≡ words_at s p → {a : Answer} → a ≡ answer (said p) (length ws)
    → (a ≡ (words_of_file s k).answer) × (ws ≡ (words_of_file s k).words)
served_there {s} {k} {p} there e d =
    (d ∙ ap (λ (l : List ℕ). answer (said p) (length l)) e ∙ ap (λ (w : WordsAnswer). w.answer) there.served, e ∙ ap (λ (w : WordsAnswer). w.words) there.served)
