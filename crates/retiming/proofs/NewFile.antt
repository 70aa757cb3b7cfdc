-- The file of a new netlist that passes the checks and that a file can hold: it is read as that netlist, passes the reader, and has no asynchronous ROM where the
-- netlist has none. Assumes nothing.
use Rattle.std.specs.Prelude.{◌≡◌, false, List, ℕ, ◌≤◌, ◌<◌, length}
use Rattle.std.proofs.Common.{ap, ◌∙◌, true≢false, arith}
use Rattle.netlist.specs.declared.Element.{Element}
use Rattle.netlist.specs.declared.Element.TheVariants.{Input, Output, Register, Async, Clocked, Gate}
use Rattle.netlist.specs.Net.{Net, size, element_at, is_async}
use Rattle.netlist.specs.NodeField.{kind_of}
use Rattle.netlist.specs.Checks.{WellFormed, TablesRead}
use Rattle.netlist.proofs.VerdictLaws.{fine_reader}
use Rattle.netlist.specs.File.{good, decode, ReadAs, encode}
use Rattle.codec.specs.Bytes.{Bytes}
use Rattle.codec.specs.Within.{Within}
use Rattle.codec.proofs.EncodeLength.{length-encode}
use Rattle.codec.proofs.EncodeBytes.{bytes-encode}
use Rattle.codec.proofs.DecodeEncode.{decode-encode}
use Rattle.retiming.specs.FileRewrite.{NoAsynchronous}

not_kind_3 : (e : Element) → is_async e ≡ false → kind_of e ≡ 3 → ⊥
not_kind_3 Input h k = omega arith
not_kind_3 Output h k = omega arith
not_kind_3 (Register r) h k = omega arith
not_kind_3 (Async m) h k = true≢false h
not_kind_3 (Clocked m r) h k = omega arith
not_kind_3 (Gate o) h k = omega arith

module _ (file : List ℕ) (M : Net) (is : file ≡ encode M) (within : Within M) where
  -- it is read as the netlist
  pub reads_file : decode file ≡ good M
  reads_file = ap decode is ∙ decode-encode M within

  -- it is a list of bytes, and no longer than document 01's limits allow
  pub file-bytes : Bytes file
  file-bytes = rw is (bytes-encode M within)

  pub file-length : length file ≤ 45175
  file-length = rw is (length-encode M within)

  -- the reader takes it
  pub file-read : WellFormed M → TablesRead M → ReadAs file M
  file-read wf read = record { reads = reads_file; fine = fine_reader M wf read }

  pub file_clocked : ((v : ℕ) → v < size M → is_async (element_at M v) ≡ false) → NoAsynchronous file
  unfolding NoAsynchronous
  file_clocked h = rw reads_file (λ v l. not_kind_3 (element_at M v) (h v l))
