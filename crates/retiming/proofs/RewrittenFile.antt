-- Laws of what specs/RewrittenFile.antt defines. Assumes nothing.
use Rattle.std.specs.Prelude.{◌≡◌, refl, false, List, ◌++◌, ℕ, ◌≤◌, ◌<◌, length, drop}
use Rattle.std.proofs.Common.{sym, subst, ◌∙◌, arith}
use Rattle.std.proofs.Math.Path.{ap}
use Rattle.netlist.specs.declared.Answer.TheVariants.{Accepted}
use Rattle.netlist.specs.Verdict.{Verdict, Fine, onward}
use Rattle.netlist.specs.Net.{Net, size, element_at, is_async}
use Rattle.netlist.specs.Checks.{Bounds, WellFormed, TablesRead}
use Rattle.netlist.specs.Trim.{trimmed}
use Rattle.netlist.proofs.Trimmed.{fewer_tables, inside_trimmed, blind_trimmed, trimmed-read}
use Rattle.netlist.proofs.TrimmedRules.{blind_async}
use Rattle.netlist.proofs.VerdictLaws.{reader_fine, reader_tables}
use Rattle.netlist.specs.File.{Decoded, decode, decoded_net, judged, file_verdict, ReadAs, encode}
use Rattle.codec.specs.Bytes.{Bytes}
use Rattle.codec.specs.Within.{Within}
use Rattle.codec.proofs.DecodeWithin.{decode_within}
use Rattle.behaviour.specs.Alike.{Alike}
use Rattle.behaviour.proofs.Alike.{alike_again}
use Rattle.behaviour.proofs.TrimmedAlike.{trimmed_alike}
use Rattle.behaviour.specs.Run.{zero_word}
use Rattle.retiming.specs.declared.Mode.{Mode}
use Rattle.retiming.specs.declared.Mode.TheVariants.{Plain, Late}
use Rattle.retiming.specs.Rewrite.{new_tables}
use Rattle.retiming.specs.Gates.{gated_with}
use Rattle.retiming.proofs.Retimed.{retimed_alike, retimed_clocked}
use Rattle.retiming.proofs.Records.{AllShaped, shaped_new, shaped_trimmed, within_shaped}
use Rattle.retiming.specs.FileRewrite.{rewriter_verdict, rewritten_of, rewritten_file, written_after, rewrite_file, NoAsynchronous}
use Rattle.retiming.specs.LateFile.{late_file_verdict, late_of, late_file, late_rewrite}
use Rattle.retiming.proofs.OutLaws.{fine_written}
use Rattle.retiming.proofs.PastDebt.{bounded}
use Rattle.retiming.proofs.Past.{past}
use Rattle.retiming.proofs.NewFile.{file-bytes, file-length, file-read, file_clocked}
use Rattle.retiming.specs.Modes.{mode_timing, mode_net, mode_verdict, mode_file_verdict, mode_file, mode_rewrite}
use Rattle.retiming.specs.ModeLaws.{Suits}
use Rattle.retiming.proofs.ModeLaws.{mode_size, mode_clear, mode_suits, mode_net_lem, mode_left}
use Rattle.retiming.specs.RewrittenFile.{Past13}

-- ---- the checks in order, and the answer with the output

pub mode_judged : (mode : Mode) (s : List ℕ) → mode_file_verdict mode s ≡ onward (file_verdict s) (mode_verdict mode (decoded_net (decode s)))
unfolding rewriter_verdict late_file_verdict
mode_judged Plain s = refl
mode_judged Late s = refl

pub mode_rewrite_lem : (mode : Mode) (s out : List ℕ) → mode_rewrite mode s out ≡ written_after (mode_file_verdict mode s) (mode_file mode s) out
unfolding rewrite_file late_rewrite
mode_rewrite_lem Plain s out = refl
mode_rewrite_lem Late s out = refl

-- into any output that is long enough goes the new file, and what is past it stays
pub accepted_written : (mode : Mode) (s out : List ℕ) → mode_file_verdict mode s ≡ Fine → length (mode_file mode s) ≤ length out
    → mode_rewrite mode s out ≡ record { answer = Accepted (length (mode_file mode s)); out = mode_file mode s ++ drop (length (mode_file mode s)) out }
accepted_written mode s out a long = mode_rewrite_lem mode s out ∙ ap (λ (v : Verdict). written_after v (mode_file mode s) out) a ∙ fine_written (mode_file mode s) out long

pub past_13 : (mode : Mode) (s : List ℕ) → mode_file_verdict mode s ≡ Fine → Past13 mode s
past_13 mode s h = past (mode_verdict mode) s (sym (mode_judged mode s) ∙ h)

-- ---- the new file

pub file_is : (mode : Mode) (s : List ℕ) (t : Past13 mode s) → mode_file mode s ≡ encode (mode_net mode t.net)
unfolding rewritten_file late_file
file_is Plain s t = ap rewritten_of t.file.reads
file_is Late s t = ap late_of t.file.reads

pub mode_file_lem : (mode : Mode) (s : List ℕ) → mode_file_verdict mode s ≡ Fine → encode (mode_net mode (decoded_net (decode s))) ≡ mode_file mode s
mode_file_lem mode s a = let t = past_13 mode s a in ap (λ (d : Decoded). encode (mode_net mode (decoded_net d))) t.file.reads ∙ sym (file_is mode s t)

module _ (mode : Mode) (s : List ℕ) (b : Bytes s) (t : Past13 mode s) where
  abbrev N : Net
  N = t.net

  abbrev file : List ℕ
  file = mode_file mode s

  old_within : Within N
  old_within = decode_within s N b t.file.reads

  pub old_fine : WellFormed N
  old_fine = reader_fine N old_within.fields t.file.fine

  pub suits : Suits N (mode_timing mode N)
  suits = let d = mode_clear mode N t.debtless in mode_suits N old_fine mode d.0 d.1

  -- with the tables that no node of it reads, and without them
  abbrev pub gated : Net
  gated = gated_with N (mode_timing mode N) (zero_word N)

  few_nodes : Bounds gated
  few_nodes =
      let d = mode_clear mode N t.debtless in
      record { nodes = omega (arith, (bounded (mode_net mode N) d.2).nodes, ap size (mode_net_lem N old_fine mode d.0 d.1), mode_size mode gated) }

  gated_alike : Alike N gated
  gated_alike = retimed_alike N old_fine (mode_timing mode N) suits.retimes few_nodes

  pub net_is : trimmed gated ≡ mode_net mode N
  net_is = let d = mode_clear mode N t.debtless in mode_left N old_fine mode d.0 d.1 (reader_tables N t.file.fine) gated_alike.new

  pub netlists_alike : Alike N (mode_net mode N)
  netlists_alike = subst (Alike N) net_is (alike_again gated_alike (trimmed_alike gated gated_alike.new))

  few_tables : length gated.tables ≤ 16
  unfolding gated_with new_tables
  few_tables = old_within.few_tables

  new_in_file : Within (mode_net mode N)
  new_in_file =
      within_shaped (mode_net mode N) netlists_alike.new (subst (λ (M : Net). length M.tables ≤ 16) net_is (omega (arith, few_tables, fewer_tables gated)))
      (subst (λ (M : Net). AllShaped M) net_is (shaped_trimmed gated (shaped_new N (mode_timing mode N) (zero_word N) suits.retimes old_within)))

  -- the reader takes it, as the new netlist
  pub new-read : ReadAs file (mode_net mode N)
  new-read = file-read file (mode_net mode N) (file_is mode s t) new_in_file netlists_alike.new (subst TablesRead net_is (trimmed-read gated))

  pub new-bytes : Bytes file
  new-bytes = file-bytes file (mode_net mode N) (file_is mode s t) new_in_file

  pub new-length : length file ≤ 45175
  new-length = file-length file (mode_net mode N) (file_is mode s t) new_in_file

  pub passes_reader : file_verdict file ≡ Fine
  unfolding file_verdict
  passes_reader = ap judged new-read.reads ∙ new-read.fine

  pub no_asynchronous : NoAsynchronous file
  no_asynchronous =
      file_clocked file (mode_net mode N) (file_is mode s t) new_in_file
      (subst (λ (M : Net). (i : ℕ) → i < size M → is_async (element_at M i) ≡ false) net_is
      (λ i h. blind_trimmed gated blind_async i ∙ retimed_clocked N old_fine (mode_timing mode N) suits.retimes i (inside_trimmed gated h)))
