-- Laws of what specs/SameNodes.antt defines. Assumes nothing.
use Rattle.std.specs.Prelude.{◌≡◌, List, ℕ}
use Rattle.netlist.specs.Verdict.{Fine}
use Rattle.netlist.specs.Net.{Net}
use Rattle.netlist.specs.File.{decode, good}
use Rattle.codec.specs.Bytes.{Bytes}
use Rattle.retiming.specs.declared.Mode.{Mode}
use Rattle.retiming.specs.Modes.{mode_file_verdict, mode_file}
use Rattle.retiming.proofs.KeptInFile.{comes_from_lem, left_aside, stays, of_files}
use Rattle.retiming.specs.SameNodes.{NodesKept}

pub same_nodes : (mode : Mode) (s s' : List ℕ) → Bytes s → mode_file_verdict mode s ≡ Fine → s' ≡ mode_file mode s
    → (N M : Net) → decode s ≡ good N → decode s' ≡ good M → NodesKept mode N M
same_nodes mode s s' b a e = of_files mode s s' b a e (NodesKept mode) (λ t. record { same = comes_from_lem mode s b t; aside = left_aside mode s b t; there = stays mode s b t })
