-- The preview: document 02, T-01, "the rewritten file's clocked ROMs, registers and length and the largest lead (0 with no nodes), or the refusal", and T-03, the registers
-- by source. Assumes nothing.
use Rattle.std.specs.Prelude.{cond, List, ◌++◌, ℕ, length, drop}
use Rattle.lists.specs.Lists.{largest}
use Rattle.netlist.specs.Net.{Net, size, element_at, is_register, is_clocked, count_of}
use Rattle.netlist.specs.Verdict.{onward, Verdict, Fine, Refuses}
use Rattle.netlist.specs.File.{decode, decoded_net, given, encode}
use Rattle.behaviour.specs.Service.{bytes_of}
use Rattle.retiming.specs.declared.Size.{Size}
use Rattle.retiming.specs.declared.Preview.{Preview}
use Rattle.retiming.specs.declared.Preview.TheVariants.{Fits, Refused}
use Rattle.retiming.specs.Leads.{lead}
use Rattle.retiming.specs.Rewrite.{rewritten}
use Rattle.retiming.specs.FileRewrite.{rewriter_verdict, out_verdict}
use Rattle.retiming.specs.BySource.{by_source}

-- only "a node that is no register" has a lead
unfoldable pub own_lead : Net → ℕ → ℕ
own_lead N v = cond (is_register (element_at N v)) 0 (lead N v)

unfoldable pub largest_lead_of : Net → ℕ
largest_lead_of N = largest (size N) (own_lead N)

-- of a rewritten netlist the nodes of kind 4, those of kind 2 (a clocked ROM's own register is none), its file's length, and how many numbers its list has; and a largest lead
unfoldable pub measured : Net → ℕ → Size
measured M m = record { clocked = count_of is_clocked M; registers = count_of is_register M; length = length (encode M); lead = m; sources = length (by_source M) }

unfoldable pub size_of : Net → Size
size_of N = measured (rewritten N) (largest_lead_of N)

-- what the preview answers, and the list that it was lent, afterwards
pub record Previewed : Type 0 where
  pub preview : Preview
  pub list : List ℕ

abbrev pub preview_by : Verdict → Size → Preview
preview_by Fine z = Fits z
preview_by (Refuses k p) z = Refused k p

-- by the verdict: the size, and the bytes b stand in the list, whose other bytes stay; or refused, and the list is as it was
abbrev pub previewed_by : Verdict → Size → List ℕ → List ℕ → Previewed
previewed_by v z b list = record { preview = preview_by v z; list = given v (b ++ drop (length b) list) list }

-- the registers by source, "two bytes a number"
unfoldable pub source_bytes : Net → List ℕ
source_bytes M = bytes_of (by_source M)

-- of a netlist M that the rewriter makes: 14, "but only when this lent list is too short"
unfoldable pub previewed : Net → ℕ → List ℕ → Previewed
previewed M m list = previewed_by (out_verdict (source_bytes M) list) (measured M m) (source_bytes M) list

-- of any file: 1 to 13, by the verdict that the rewriter goes by, then 14
unfoldable pub preview_file : List ℕ → List ℕ → Previewed
preview_file s list =
    let N = decoded_net (decode s) in
    let b = source_bytes (rewritten N) in
    previewed_by (onward (rewriter_verdict s) (out_verdict b list)) (size_of N) b list
