-- Where the output ports read, behind the lines. Assumes nothing.
use Rattle.std.specs.Prelude.{◌≡◌, refl, List, ℕ, ◌+◌, ◌<◌, length, get_or, set}
use Rattle.std.proofs.Common.{ap, ◌∙◌, arith, length-set, get_or-set_same, get_or-set_other, below_more}
use Rattle.netlist.specs.Net.{Net, source}
use Rattle.schedule.specs.Lines.{outputs_from}

-- the first j of the ports that stand in a list from place k on have their places, and no line is changed
pub record PortsPut (N : Net) (nodes places before after : List ℕ) (k j : ℕ) : Type 0 where
  pub kept : length after ≡ length before
  pub lines : (w : ℕ) → w < outputs_from → get_or after w 0 ≡ get_or before w 0
  pub each : (i : ℕ) → i < j → get_or after (outputs_from + i) 0 ≡ get_or places (source N (get_or nodes (k + i) 0) 0) 0

module _ {N : Net} {nodes places : List ℕ} {k : ℕ} where
  pub ports_none : (l : List ℕ) → PortsPut N nodes places l l k 0
  ports_none l = record { kept = refl; lines = λ w h. refl; each = λ i h. absurd (omega arith) }

  pub ports_more : {before after : List ℕ} {j x v : ℕ} → PortsPut N nodes places before after k j → outputs_from + j < length before → v ≡ get_or nodes (k + j) 0
      → x ≡ get_or places (source N v 0) 0 → PortsPut N nodes places before (set after (outputs_from + j) x) k (j + 1)
  ports_more {after = after} {j} {x} t h is e = record {
    kept = length-set after (outputs_from + j) x ∙ t.kept;
    lines = λ w l. get_or-set_other after (outputs_from + j) w x 0 (λ q. omega arith) ∙ t.lines w l;
    each = below_more _ j (λ i l. get_or-set_other after (outputs_from + j) (outputs_from + i) x 0 (λ q. omega arith) ∙ t.each i l)
        (get_or-set_same after (outputs_from + j) x 0 (omega (arith, t.kept)) ∙ e ∙ ap (λ (u : ℕ). get_or places (source N u 0) 0) is);
  }
