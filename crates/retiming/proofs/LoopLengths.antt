-- Laws of what specs/LoopLengths.antt defines. Assumes nothing.
use Rattle.std.specs.Prelude.{◌≡◌, List, ℕ}
use Rattle.netlist.specs.Verdict.{Fine}
use Rattle.netlist.specs.Net.{Net}
use Rattle.netlist.specs.File.{decode, good}
use Rattle.codec.specs.Bytes.{Bytes}
use Rattle.retiming.specs.declared.Mode.{Mode}
use Rattle.retiming.specs.Modes.{mode_file_verdict, mode_file}
use Rattle.retiming.proofs.KeptInFile.{loops_kept, paths_kept, of_files}
use Rattle.retiming.specs.LoopLengths.{LengthsKept}

pub loops_keep_their_length : (mode : Mode) (s s' : List ℕ) → Bytes s → mode_file_verdict mode s ≡ Fine → s' ≡ mode_file mode s
    → (N M : Net) → decode s ≡ good N → decode s' ≡ good M → LengthsKept mode N M
loops_keep_their_length mode s s' b a e = of_files mode s s' b a e (LengthsKept mode) (λ t. record { loops = loops_kept mode s b t; paths = paths_kept mode s b t })
