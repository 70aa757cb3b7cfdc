-- From the circuit and the verdict of the code to the definitions, over plain values. Assumes nothing.
use Rattle.std.specs.Prelude.{◌≡◌, refl, List, ℕ, ◌<◌, length, Result, Ok, Err, IfOk, IfErr}
use Rattle.std.proofs.Math.Path.{sym}
use Rattle.std.proofs.Common.{ap, subst, ◌∙◌, arith}
use Rattle.std.proofs.Math.Logic.{⊎_elim}
use Rattle.lists.proofs.BelowLaws.{lt_or_le}
use Rattle.netlist.specs.Net.{in_clock, Net, size, element_at, source, operands, Sourced}
use Rattle.netlist.specs.Checks.{WellFormed}
use Rattle.netlist.proofs.VerdictLaws.{reader_fine}
use Rattle.netlist.specs.Verdict.{reader_verdict, Verdict, Fine, Refuses}
use Rattle.netlist.specs.File.{bad, good, decode, judged, file_verdict, answer, check_answer, ReadAs}
use Rattle.netlist.specs.declared.Refusal.{Refusal}
use Rattle.netlist.specs.Refusal.{number_of, place_of, said}
use Rattle.netlist.specs.declared.Answer.TheVariants.{Accepted, Refused}
use Rattle.codec.specs.Bytes.{Bytes}
use Rattle.codec.proofs.DecodeWithin.{decode_within}
use Rattle.circuit.specs.Circuit.{order_of, net_of, Circuit}
use Rattle.circuit.specs.Shown.{Shown}
use Rattle.circuit.specs.Order.{Complete}
use Rattle.checks.specs.Open.{Open, Opened, turned_away, taken, OpenedAs}

-- a refusal of checks 1 to 5
pub bad_file : (s : List ℕ) {k p : ℕ} → decode s ≡ bad k p → file_verdict s ≡ Refuses k p
unfolding file_verdict
bad_file s e = ap judged e

-- what the reader says of a file is what it says of its netlist
judged_by_lem : (s : List ℕ) {N : Net} → decode s ≡ good N → file_verdict s ≡ reader_verdict N
unfolding file_verdict
judged_by_lem s e = ap judged e

-- ---- what opening tells

module _ {s l : List ℕ} where
  refused_with : {k p : ℕ} → Opened s l (Refuses k p) → file_verdict s ≡ Refuses k p
  refused_with (turned_away e) = e

  taken_with : Opened s l Fine → Open s l
  taken_with (taken o) = o

  pub opened-refused : {r : Verdict} {k p : ℕ} → Opened s l r → r ≡ Refuses k p → file_verdict s ≡ Refuses k p
  opened-refused o e = refused_with (subst (Opened s l) e o)

  pub opened_fine : {r : Verdict} → Opened s l r → r ≡ Fine → Open s l
  opened_fine o e = taken_with (subst (Opened s l) e o)

  -- by what open_file says
  pub opened_told : (r : Result (Unit {0}) Refusal) → IfOk r (λ _. Open s l) → IfErr r (λ x. file_verdict s ≡ Refuses (number_of x) (place_of x)) → Opened s l (said r)
  opened_told (Ok u) o e = taken o
  opened_told (Err x) o e = turned_away e

pub passed : (s : List ℕ) {N : Net} → ReadAs s N → file_verdict s ≡ Fine
passed s o = judged_by_lem s o.reads ∙ o.fine

module _ {s : List ℕ} {h : Shown} where
  pub check_accepted : OpenedAs s h → Accepted (length s) ≡ check_answer s
  unfolding check_answer
  check_accepted o = sym (ap (λ (v : Verdict). answer v (length s)) (passed s o.file))

  -- THE NETLIST of an opened file is well-formed, and all three sources of its nodes are nodes, also those that do not count
  pub open_formed : Bytes s → OpenedAs s h → WellFormed (h.net)
  open_formed b o = reader_fine (h.net) (decode_within s (h.net) b o.file.reads).fields o.file.fine

  pub open_inside : Bytes s → OpenedAs s h → (v p : ℕ) → v < size (h.net) → p < 3 → source (h.net) v p < size (h.net)
  unfolding Sourced source element_at
  open_inside b o v p l t =
      let N = h.net in
      ⊎_elim ((open_formed b o).sourced v p l) (λ k. omega (arith, ((decode_within s N b o.file.reads).records v l).unread p k)) (lt_or_le p (operands (element_at N v)))

pub check_refused : (s : List ℕ) {k p : ℕ} → file_verdict s ≡ Refuses k p → Refused k p ≡ check_answer s
unfolding check_answer
check_refused s e = sym (ap (λ (v : Verdict). answer v (length s)) e)

-- from what the code says of the netlist
module _ (s : List ℕ) {N : Net} (d : decode s ≡ good N) where
  pub refused_by : (r : Refusal) → Refuses (number_of r) (place_of r) ≡ reader_verdict N → file_verdict s ≡ Refuses (number_of r) (place_of r)
  refused_by r e = judged_by_lem s d ∙ sym e

  pub opened_as : {h : Shown} → h.net ≡ N → h.file ≡ s → Fine ≡ reader_verdict N → Complete in_clock N h.order → OpenedAs s h
  opened_as {h} n f e o = record {
    file = rw n (record { reads = d; fine = sym e });
    ordered = rw n o;
    words = f;
  }

-- from the verdict of the code
pub opened_by : {s l : List ℕ} {N : Net} {r : Verdict} → decode s ≡ good N → net_of s l ≡ N → Circuit s l → r ≡ reader_verdict N → (r ≡ Fine → Complete in_clock N (order_of l)) → Opened s l r
opened_by {s} {l} {r = r} d n k e f = go r (e ∙ ap reader_verdict (sym n)) (λ q. subst (λ (M : Net). Complete in_clock M (order_of l)) (sym n) (f q))
  where
    reads : decode s ≡ good (net_of s l)
    reads = d ∙ ap good (sym n)

    go : (w : Verdict) → w ≡ reader_verdict (net_of s l) → (w ≡ Fine → Complete in_clock (net_of s l) (order_of l)) → Opened s l w
    go Fine e f = taken (record { file = record { reads = reads; fine = sym e }; circuit = k; ordered = f refl })
    go (Refuses a b) e f = turned_away (judged_by_lem s reads ∙ sym e)

-- and as a result: what it leaves is open, or the file's own refusal
module _ {s l : List ℕ} {N : Net} (d : decode s ≡ good N) (n : net_of s l ≡ N) (k : Circuit s l) where
  pub open_by : (r : Result (Unit {0}) Refusal) → said r ≡ reader_verdict N → IfOk r (λ _. Complete in_clock N (order_of l)) → IfOk r (λ _. Open s l)
  open_by (Ok u) e o = opened_fine (opened_by d n k e (λ _. o)) refl
  open_by (Err x) e o = tt

  pub turned_by : (r : Result (Unit {0}) Refusal) → said r ≡ reader_verdict N → IfErr r (λ x. file_verdict s ≡ Refuses (number_of x) (place_of x))
  turned_by (Ok u) e = tt
  turned_by (Err x) e = refused_by s d x e
