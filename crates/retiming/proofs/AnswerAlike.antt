-- Laws of what specs/AnswerAlike.antt defines. Assumes nothing.
use Rattle.std.specs.Prelude.{◌≡◌, List, map, ℕ}
use Rattle.std.proofs.Common.{ap, ap₂, sym, ◌∙◌}
use Rattle.netlist.specs.Net.{Table, Net}
use Rattle.netlist.specs.Verdict.{Verdict, onward}
use Rattle.netlist.specs.File.{Decoded, good, decode, decoded_net, encode}
use Rattle.netlist.specs.Respelled.{Respelled, over, spelled_table, spelled_net}
use Rattle.netlist.proofs.Respelled.{spelled_respelled}
use Rattle.codec.specs.Bytes.{Bytes}
use Rattle.codec.proofs.EncodeDecode.{encode-decode}
use Rattle.codec.proofs.SpelledOut.{decode-spelled}
use Rattle.behaviour.proofs.Respelled.{respelled_files}
use Rattle.retiming.specs.Rewrite.{rewritten}
use Rattle.retiming.specs.Debt.{debt_verdict}
use Rattle.retiming.specs.FileRewrite.{rewriter_verdict, rewritten_of, rewritten_file}
use Rattle.retiming.specs.Respelled.{with_tables, behind_tables}
use Rattle.retiming.proofs.Respelled.{respelled_rewritten, respelled_debt, encode_parts, tables_kept}
use Rattle.retiming.specs.AnswerAlike.{SameButTables}

rewritten_parts : (f : List ℕ) (N : Net) → decode f ≡ good N → rewritten_file f ≡ with_tables N.tables (behind_tables (rewritten N))
unfolding rewritten_file
rewritten_parts f N reads = ap rewritten_of reads ∙ encode_parts (rewritten N) ∙ ap (λ (ts : List Table). with_tables ts (behind_tables (rewritten N))) (tables_kept N)

-- THE THEOREM
pub answer_alike : (f g : List ℕ) (N M : Net) → decode f ≡ good N → decode g ≡ good M → Respelled N M → SameButTables f g N.tables M.tables
unfolding rewriter_verdict rewritten_file
answer_alike f g N M reads reads' r =
    let run = respelled_files f g N M reads reads' r in
    let after : Decoded → Verdict = λ d. debt_verdict (decoded_net d) in
    record {
      checked = run.0;
      reset = run.1;
      runs = run.2;
      judged = ap₂ onward run.0 (ap after reads ∙ respelled_debt r ∙ sym (ap after reads'));
      rest = behind_tables (rewritten N);
      first = rewritten_parts f N reads;
      second = ap rewritten_of reads' ∙ ap encode (respelled_rewritten r) ∙ encode_parts (over M.tables (rewritten N));
    }

-- any file of bytes that passes 1 to 5, and the file of its netlist with every table spelled out
pub spelled_out_alike : (f : List ℕ) (N : Net) → Bytes f → decode f ≡ good N → SameButTables f (encode (spelled_net N)) N.tables (map spelled_table N.tables)
spelled_out_alike f N b reads = answer_alike f (encode (spelled_net N)) N (spelled_net N) reads (decode-spelled f N b reads) (spelled_respelled N)

-- "The rewritten file keeps the field as it came": up to the nodes the two files are byte for byte the same
pub fields_as_they_came : (f : List ℕ) (N : Net) → Bytes f → decode f ≡ good N
    → (old new : List ℕ) × (f ≡ with_tables N.tables old) × (rewritten_file f ≡ with_tables N.tables new)
fields_as_they_came f N b reads = (behind_tables N, behind_tables (rewritten N), sym (encode-decode f N b reads) ∙ encode_parts N, rewritten_parts f N reads)
