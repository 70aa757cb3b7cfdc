-- Bench netlists of the late start, in one list: a file's bytes in; the refusal, or the late-started bytes, the leads and the output words of the first clocks out.
-- One computation checks them all. Assumes nothing.
use Rattle.std.specs.Prelude.{not, List, [], ◌∷◌, map, ℕ, take, replicate}
use Rattle.lists.specs.Lists.{select}
use Rattle.netlist.specs.Net.{size, element_at, is_register}
use Rattle.netlist.specs.File.{Decoded, bad, good, decode}
use Rattle.netlist.specs.declared.Answer.{Answer}
use Rattle.netlist.specs.declared.Answer.TheVariants.{Accepted, Refused}
use Rattle.retiming.specs.FileRewrite.{Rewrote}
use Rattle.retiming.specs.LateRewrite.{late_timing}
use Rattle.retiming.specs.LateFile.{late_rewrite}
use Rattle.retiming.specs.Bench.{Clock, Gives, refusal, result, output_words, clock, bare, turned, owing}

pub record LateCase : Type 0 where
  pub file : List ℕ
  pub clocks : List Clock
  pub gives : Gives

-- ---- what the definitions say

-- the leads of the nodes other than registers, in order, counted from the origin
unfoldable pub late_leads_in : Decoded → List ℕ
late_leads_in (bad k p) = []
late_leads_in (good N) = select (λ v. not (is_register (element_at N v))) (late_timing N).lead (size N)

-- into an output of 100 bytes: the answer, and the words of the old file and of the new one
pub record LateFound : Type 0 where
  pub gives : Gives
  pub old : List (List ℕ)
  pub new : List (List ℕ)

unfoldable pub found_by : Rewrote → Answer → LateCase → LateFound
found_by r (Refused k p) c = record { gives = refusal k p; old = []; new = [] }
found_by r (Accepted n) c = record {
  gives = result (take n r.out) (late_leads_in (decode c.file));
  old = output_words c.file c.clocks;
  new = output_words (take n r.out) c.clocks;
}

unfoldable pub late_found : LateCase → LateFound
late_found c = let r = late_rewrite c.file (replicate 100 0) in found_by r r.answer c

unfoldable pub late_expected : LateCase → LateFound
late_expected c = record { gives = c.gives; old = map (λ k. k.outputs) c.clocks; new = map (λ k. k.outputs) c.clocks }

-- ---- the netlists

-- "The bench netlist with the not gate is accepted here." The origin is 7 and the not gate has lead 6, one clock late; so the output port reads a gate that
-- shows it the register's reset word at the first clock
unfoldable pub turned_late : LateCase
turned_late = record {
  file = turned.file;
  clocks = clock (0 ∷ []) (2 ∷ []) ∷ clock (1 ∷ []) (0 ∷ []) ∷ clock (2 ∷ []) (2 ∷ []) ∷ clock (3 ∷ []) (1 ∷ []) ∷ clock (0 ∷ []) (1 ∷ []) ∷ [];
  gives = result
      (0x01 ∷ 0x00 ∷ 0x01 ∷ 0x01
      ∷ 0x02 ∷ 0x00 ∷ 0x0A ∷ 0x02 ∷ 0x02 ∷ 0x00 ∷ 0x03 ∷ 0x00 ∷ 0x01 ∷ 0x00 ∷ 0x02 ∷ 0x00 ∷ 0x02
      ∷ 0x03 ∷ 0x00 ∷ 0x02 ∷ 0x00 ∷ 0x02
      ∷ 0x03 ∷ 0x00 ∷ 0x07 ∷ 0x04 ∷ 0x02 ∷ 0x00 ∷ 0x00 ∷ 0x00 ∷ 0x00 ∷ 0x00
      ∷ 0x03 ∷ 0x00 ∷ 0x05 ∷ 0x05 ∷ 0x02 ∷ 0x01 ∷ 0x00 ∷ 0x01
      ∷ 0x03 ∷ 0x00 ∷ 0x04 ∷ 0x01 ∷ 0x02 ∷ 0x00 ∷ 0x07
      ∷ 0x03 ∷ 0x00 ∷ 0x05 ∷ 0x05 ∷ 0x01 ∷ 0x00 ∷ 0x00 ∷ 0x01
      ∷ 0x03 ∷ 0x00 ∷ 0x06 ∷ 0x02 ∷ 0x01 ∷ 0x00 ∷ 0x04 ∷ 0x00 ∷ 0x00
      ∷ 0x03 ∷ 0x00 ∷ 0x05 ∷ 0x05 ∷ 0x02 ∷ 0x00 ∷ 0x00 ∷ 0x02
      ∷ 0x03 ∷ 0x00 ∷ 0x09 ∷ 0x05 ∷ 0x02 ∷ 0x09 ∷ 0x00 ∷ 0x05 ∷ 0x00 ∷ 0x02 ∷ 0x00 ∷ 0x06
      ∷ 0x04 ∷ 0x00 ∷ 0x00 ∷ [])
      (7 ∷ 7 ∷ 6 ∷ 7 ∷ []);
}

-- the loop of two asynchronous ROMs and one register with no output on it, beside an input port and an output port: the loop is left out, and its table with it (T-06)
unfoldable pub idle : LateCase
idle = record {
  file =
      0x01 ∷ 0x00 ∷ 0x01 ∷ 0x01
      ∷ 0x02 ∷ 0x00 ∷ 0x06 ∷ 0x01 ∷ 0x01 ∷ 0x00 ∷ 0x01 ∷ 0x00 ∷ 0x00
      ∷ 0x03 ∷ 0x00 ∷ 0x05 ∷ 0x03 ∷ 0x01 ∷ 0x00 ∷ 0x02 ∷ 0x00
      ∷ 0x03 ∷ 0x00 ∷ 0x05 ∷ 0x03 ∷ 0x01 ∷ 0x00 ∷ 0x00 ∷ 0x00
      ∷ 0x03 ∷ 0x00 ∷ 0x06 ∷ 0x02 ∷ 0x01 ∷ 0x00 ∷ 0x01 ∷ 0x00 ∷ 0x00
      ∷ 0x03 ∷ 0x00 ∷ 0x02 ∷ 0x00 ∷ 0x02
      ∷ 0x03 ∷ 0x00 ∷ 0x04 ∷ 0x01 ∷ 0x02 ∷ 0x00 ∷ 0x03
      ∷ 0x04 ∷ 0x00 ∷ 0x00 ∷ [];
  clocks = clock (3 ∷ []) (3 ∷ []) ∷ clock (1 ∷ []) (1 ∷ []) ∷ [];
  gives = result
      (0x01 ∷ 0x00 ∷ 0x01 ∷ 0x01
      ∷ 0x03 ∷ 0x00 ∷ 0x02 ∷ 0x00 ∷ 0x02
      ∷ 0x03 ∷ 0x00 ∷ 0x04 ∷ 0x01 ∷ 0x02 ∷ 0x00 ∷ 0x00
      ∷ 0x04 ∷ 0x00 ∷ 0x00 ∷ [])
      (0 ∷ 0 ∷ 7 ∷ 7 ∷ []);
}

-- a loop of one asynchronous ROM over table 0 and a register, with no output on it, beside a clocked ROM over table 1: table 0 goes, and table 1 has number 0 (T-06)
unfoldable pub numbered : LateCase
numbered = record {
  file =
      0x01 ∷ 0x00 ∷ 0x01 ∷ 0x01
      ∷ 0x02 ∷ 0x00 ∷ 0x06 ∷ 0x01 ∷ 0x01 ∷ 0x00 ∷ 0x00 ∷ 0x00 ∷ 0x01
      ∷ 0x02 ∷ 0x00 ∷ 0x06 ∷ 0x01 ∷ 0x01 ∷ 0x00 ∷ 0x01 ∷ 0x00 ∷ 0x00
      ∷ 0x03 ∷ 0x00 ∷ 0x05 ∷ 0x03 ∷ 0x01 ∷ 0x00 ∷ 0x01 ∷ 0x00
      ∷ 0x03 ∷ 0x00 ∷ 0x06 ∷ 0x02 ∷ 0x01 ∷ 0x00 ∷ 0x00 ∷ 0x00 ∷ 0x00
      ∷ 0x03 ∷ 0x00 ∷ 0x02 ∷ 0x00 ∷ 0x01
      ∷ 0x03 ∷ 0x00 ∷ 0x07 ∷ 0x04 ∷ 0x01 ∷ 0x00 ∷ 0x02 ∷ 0x01 ∷ 0x00 ∷ 0x01
      ∷ 0x03 ∷ 0x00 ∷ 0x04 ∷ 0x01 ∷ 0x01 ∷ 0x00 ∷ 0x03
      ∷ 0x04 ∷ 0x00 ∷ 0x00 ∷ [];
  clocks = clock (1 ∷ []) (1 ∷ []) ∷ clock (0 ∷ []) (0 ∷ []) ∷ clock (0 ∷ []) (1 ∷ []) ∷ [];
  gives = result
      (0x01 ∷ 0x00 ∷ 0x01 ∷ 0x01
      ∷ 0x02 ∷ 0x00 ∷ 0x06 ∷ 0x01 ∷ 0x01 ∷ 0x00 ∷ 0x01 ∷ 0x00 ∷ 0x00
      ∷ 0x03 ∷ 0x00 ∷ 0x02 ∷ 0x00 ∷ 0x01
      ∷ 0x03 ∷ 0x00 ∷ 0x07 ∷ 0x04 ∷ 0x01 ∷ 0x00 ∷ 0x00 ∷ 0x00 ∷ 0x00 ∷ 0x01
      ∷ 0x03 ∷ 0x00 ∷ 0x04 ∷ 0x01 ∷ 0x01 ∷ 0x00 ∷ 0x01
      ∷ 0x04 ∷ 0x00 ∷ 0x00 ∷ [])
      (0 ∷ 7 ∷ 7 ∷ 7 ∷ []);
}

-- document 01's two that stay refused: a walk from the input port to the output port, and a closed walk that reaches it, have positive excess
unfoldable pub bare_late : LateCase
bare_late = record { file = bare.file; clocks = []; gives = refusal 12 0 }

unfoldable pub owing_late : LateCase
owing_late = record { file = owing.file; clocks = []; gives = refusal 11 65535 }

unfoldable pub late_bench : List LateCase
late_bench = turned_late ∷ idle ∷ numbered ∷ bare_late ∷ owing_late ∷ []
