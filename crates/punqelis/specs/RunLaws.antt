-- A state and an output list have two bytes a word and at most one word a node, so their lengths are below 65,536 too. Assumes nothing.
use Rattle.std.specs.Prelude.{◌≡◌, Bool, true, false, ◌&&◌, List, ℕ, ◌*◌, ◌≤◌, length}
use Rattle.std.proofs.Math.Path.{refl}
use Rattle.std.proofs.Math.Logic.{⊎_elim}
use Rattle.std.proofs.Common.{arith}
use Rattle.lists.specs.Lists.{select}
use Rattle.lists.proofs.BelowLaws.{true_or_false, and_right, eqb-true, count_below-le}
use Rattle.lists.proofs.ListsLaws.{length-select}
use Rattle.netlist.specs.Net.{Net, size, element_at, width_at, is_output, holds_word}
use Rattle.netlist.specs.Scan.{Scan, refused, found, scan}
use Rattle.netlist.proofs.ScanLaws.{scan_found}
use Rattle.netlist.specs.Verdict.{onward, reader_verdict, Verdict, Fine, Refuses}
use Rattle.netlist.specs.File.{net_in, decoded, decode, decoded_net, judged, file_verdict}
use Rattle.netlist.proofs.FileLaws.{size_in}
use Rattle.behaviour.specs.Runs.{input_widths, output_widths, state_widths}
use Rattle.behaviour.specs.Service.{room_for, fitting_bytes, reset_by, reset_verdict, reset_file, run_by, run_verdict, run_file}
use Rattle.punqelis.specs.CodeLaws.{LengthWithin, accepted_within, refused_within}

-- one word for each node that passes a test
module _ (q : ℕ → Bool) (N : Net) (few : size N ≤ 1024) where
  room : (b : List ℕ) → room_for (select q (λ v. width_at N v) (size N)) b ≡ true → length b ≤ 65535
  room b e = let l : length b ≡ 2 * length (select q (λ v. width_at N v) (size N)) = eqb-true e in omega (arith, length-select q (λ v. width_at N v) (size N), count_below-le q (size N))

module _ (N : Net) (few : size N ≤ 1024) where
  -- of what 1 to 10 say, and then 15 and 16
  reset_judged : (v : Verdict) (st : List ℕ) → LengthWithin 65535 (reset_by (onward v (reset_verdict N st)) N st).answer
  unfolding state_widths
  reset_judged Fine st =
      ⊎_elim
      (λ (e : room_for (state_widths N) st ≡ true). rw e (accepted_within (room (λ v. holds_word (element_at N v)) N few st e)))
      (λ (e : room_for (state_widths N) st ≡ false). rw e refused_within)
      (true_or_false (room_for (state_widths N) st))
  reset_judged (Refuses k p) st = refused_within

  run_judged : (v : Verdict) (st ins outs : List ℕ) → LengthWithin 65535 (run_by (onward v (run_verdict N st ins outs)) N st ins outs).answer
  unfolding output_widths
  run_judged Fine st ins outs =
      ⊎_elim
      (λ (e : (fitting_bytes (input_widths N) ins && room_for (output_widths N) outs) ≡ true).
      ⊎_elim
      (λ (d : fitting_bytes (state_widths N) st ≡ true). rw e (rw d (accepted_within (room (λ v. is_output (element_at N v)) N few outs (and_right (fitting_bytes (input_widths N) ins) (room_for (output_widths N) outs) e)))))
      (λ (d : fitting_bytes (state_widths N) st ≡ false). rw e (rw d refused_within))
      (true_or_false (fitting_bytes (state_widths N) st)))
      (λ (e : (fitting_bytes (input_widths N) ins && room_for (output_widths N) outs) ≡ false). rw e refused_within)
      (true_or_false (fitting_bytes (input_widths N) ins && room_for (output_widths N) outs))
  run_judged (Refuses k p) st ins outs = refused_within

module _ (s : List ℕ) where
  few_nodes : (ts ns : List ℕ) → scan s ≡ found ts ns → size (net_in s ts ns) ≤ 1024
  few_nodes ts ns e = omega (arith, size_in s ts ns, (scan_found s ts ns e).few_nodes)

  reset_scanned : (w : Scan) → scan s ≡ w → (st : List ℕ) → let d = decoded s w in LengthWithin 65535 (reset_by (onward (judged d) (reset_verdict (decoded_net d) st)) (decoded_net d) st).answer
  reset_scanned (refused k p) e st = refused_within
  reset_scanned (found ts ns) e st = reset_judged (net_in s ts ns) (few_nodes ts ns e) (reader_verdict (net_in s ts ns)) st

  run_scanned : (w : Scan) → scan s ≡ w → (st ins outs : List ℕ)
      → let d = decoded s w in LengthWithin 65535 (run_by (onward (judged d) (run_verdict (decoded_net d) st ins outs)) (decoded_net d) st ins outs).answer
  run_scanned (refused k p) e st ins outs = refused_within
  run_scanned (found ts ns) e st ins outs = run_judged (net_in s ts ns) (few_nodes ts ns e) (reader_verdict (net_in s ts ns)) st ins outs

  pub reset_within : (st : List ℕ) → LengthWithin 65535 (reset_file s st).answer
  unfolding reset_file file_verdict decode
  reset_within st = reset_scanned (scan s) refl st

  pub run_within : (st ins outs : List ℕ) → LengthWithin 65535 (run_file s st ins outs).answer
  unfolding run_file file_verdict decode
  run_within st ins outs = run_scanned (scan s) refl st ins outs
