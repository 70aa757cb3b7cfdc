-- The services over a file, from what opening it left. Assumes nothing.
use mathlib.Core.Path.{◌≡◌, ap}
use mathlib.Core.List.{List}
use Prim.Native.Nat.{ℕ}
use Rattle.netlist.specs.Verdict.{onward, Verdict, Refuses}
use Rattle.netlist.specs.File.{decode, decoded_net, file_verdict}
use Rattle.netlist.specs.declared.Answer.TheVariants.{Refused}
use Rattle.circuit.specs.Shown.{Shown}
use Rattle.behaviour.specs.Service.{reset_by, reset_verdict, reset_net, reset_file, run_by, run_verdict, run_net, run_file}
use Rattle.behaviour.proofs.ServiceLaws.{reset_file_lem, run_file_lem}
use Rattle.checks.specs.Open.{OpenedAs}

-- ---- a file that is refused

pub reset_turned_away : (s st : List ℕ) {k p : ℕ} → file_verdict s ≡ Refuses k p → reset_file s st ≡ record { answer = Refused k p; state = st }
unfolding reset_file
reset_turned_away s st e = let N = decoded_net (decode s) in ap (λ (v : Verdict). reset_by (onward v (reset_verdict N st)) N st) e

pub run_turned_away : (s st ins outs : List ℕ) {k p : ℕ} → file_verdict s ≡ Refuses k p → run_file s st ins outs ≡ record { answer = Refused k p; state = st; outputs = outs }
unfolding run_file
run_turned_away s st ins outs e = let N = decoded_net (decode s) in ap (λ (v : Verdict). run_by (onward v (run_verdict N st ins outs)) N st ins outs) e

-- ---- a file that is taken

module _ {s : List ℕ} {h : Shown} (o : OpenedAs s h) where
  pub reset_taken : (st : List ℕ) → reset_file s st ≡ reset_net h.net st
  reset_taken = reset_file_lem s h.net o.file

  pub run_taken : (st ins outs : List ℕ) → run_file s st ins outs ≡ run_net h.net st ins outs
  run_taken = run_file_lem s h.net o.file
