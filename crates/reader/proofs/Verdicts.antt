-- The verdict that a step behind tables and nodes is, and what check_end says of it. Assumes nothing.
use Rattle.std.specs.Prelude.{◌≡◌, refl, List, ℕ, Result, Ok, Err}
use Rattle.std.proofs.Math.Path.{sym, ap}
use Rattle.std.proofs.Common.{◌∙◌}
use Rattle.netlist.specs.declared.Refusal.{Refusal}
use Rattle.netlist.specs.Refusal.{said}
use Rattle.netlist.specs.Verdict.{Verdict, Fine, Refuses}
use Rattle.netlist.specs.Scan.{Step, Refuse, TableField, NodeField, EndField}
use Rattle.reader.specs.Fields.{stepped, last_step}

-- what it says of the file: it is never a table or a node
abbrev pub verdict_of : Step → Verdict
verdict_of (Refuse k p) = Refuses k p
verdict_of (TableField next) = Fine
verdict_of (NodeField next) = Fine
verdict_of EndField = Fine

pub end_said : {A : Type 0} (s : List ℕ) (at : ℕ) (r : Result A Refusal) → last_step s at ≡ stepped (λ _. EndField) r → said r ≡ verdict_of (last_step s at)
end_said s at r e = by r ∙ ap verdict_of (sym e)
  where
    by : {A : Type 0} (r : Result A Refusal) → said r ≡ verdict_of (stepped (λ _. EndField) r)
    by (Ok x) = refl
    by (Err x) = refl
