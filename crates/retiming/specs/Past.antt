-- What the checks of a mode leave of a file that they accept: its netlist, in which neither the reader (1 to 10) nor the mode (11 to 13) finds anything to refuse.
-- Assumes nothing.
use Rattle.std.specs.Prelude.{◌≡◌, List, ℕ}
use Rattle.netlist.specs.Net.{Net}
use Rattle.netlist.specs.Verdict.{onward, Verdict, Fine}
use Rattle.netlist.specs.File.{decode, decoded_net, file_verdict, ReadAs}

module _ (debts : Net → Verdict) (s : List ℕ) where
  abbrev pub judged_by : Verdict
  judged_by = onward (file_verdict s) (debts (decoded_net (decode s)))

  pub record Past : Type 0 where
    pub net : Net
    pub file : ReadAs s net
    pub debtless : debts net ≡ Fine
