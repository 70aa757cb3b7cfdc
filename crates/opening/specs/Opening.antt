-- A circuit is filled field by field. Assumes nothing.
use Rattle.std.specs.Prelude.{◌≡◌, List, [], ◌∷◌, ◌++◌, ℕ, ◌+◌, ◌<◌, length, get_or, set, Result, Ok, Err, IfOk, IfErr}
use Rattle.std.proofs.Common.{sym, ap, subst, ◌∙◌, arith, length-set, length-append, get_or-set_same, get_or-set_other, below_more}
use Rattle.std.proofs.Math.ListN.{get_or-append}
use Rattle.std.proofs.Math.Seq.{get_or-append_seam}
use Rattle.netlist.specs.declared.Node.{Node}
use Rattle.netlist.specs.declared.Refusal.{Refusal}
use Rattle.netlist.specs.Refusal.{number_of, place_of, said}
use Rattle.netlist.specs.Verdict.{Verdict, Fine, Refuses}
use Rattle.netlist.specs.File.{bad, good, decode}
use Rattle.circuit.specs.Circuit.{net_of, Circuit}
use Rattle.circuit.proofs.CircuitLaws.{size-nodes, table_place}
use Rattle.circuit.specs.Building.{Pushed, Built}
use Rattle.circuit.proofs.Heading.{Heading, heading_done}

-- a table more, where there is no node
pub built_table : {ts l : List ℕ} {t : ℕ} (at : ℕ) → Built ts [] l → t ≡ length ts → t < 16 → Built (ts ++ (at ∷ [])) [] (set (set l 1 (t + 1)) (2 + t) at)
built_table {ts} {l} {t} at b e h = heading_done heading (omega (arith, longer)) (omega (arith, longer))
  where
    longer : length (ts ++ (at ∷ [])) ≡ length ts + 1
    longer = length-append ts (at ∷ [])

    front : (u : ℕ) → u < t → get_or l (2 + u) 0 ≡ get_or ts u 0
    front u k = sym (table_place l u (omega (arith, ap length b.tables))) ∙ ap (λ (y : List ℕ). get_or y u 0) b.tables

    heading : Heading (ts ++ (at ∷ [])) (set (set l 1 (t + 1)) (2 + t) at) (t + 1)
    heading = record {
      room = omega (arith, b.formed.room, length-set l 1 (t + 1), length-set (set l 1 (t + 1)) (2 + t) at);
      empty = get_or-set_other (set l 1 (t + 1)) (2 + t) 0 at 0 (λ d. omega arith) ∙ get_or-set_other l 1 0 (t + 1) 0 (λ d. omega arith) ∙ sym (size-nodes l) ∙ ap length b.nodes;
      count = get_or-set_other (set l 1 (t + 1)) (2 + t) 1 at 0 (λ d. omega arith) ∙ get_or-set_same l 1 (t + 1) 0 (omega (arith, b.formed.room)) ∙ omega (arith, e, longer);
      each = below_more (λ (u : ℕ). get_or (set (set l 1 (t + 1)) (2 + t) at) (2 + u) 0 ≡ get_or (ts ++ (at ∷ [])) u 0) t
          (λ u k. get_or-set_other (set l 1 (t + 1)) (2 + t) (2 + u) at 0 (λ d. omega arith) ∙ get_or-set_other l 1 (2 + u) (t + 1) 0 (λ d. omega arith) ∙ front u k ∙ sym (get_or-append ts (at ∷ []) 0 u (omega (arith, e))))
          (get_or-set_same (set l 1 (t + 1)) (2 + t) at 0 (omega (arith, b.formed.room, length-set l 1 (t + 1))) ∙ sym (ap (λ (k : ℕ). get_or (ts ++ (at ∷ [])) k 0) e ∙ get_or-append_seam ts at [] 0));
    }

-- a node more
pub built_node : {ts l m : List ℕ} {xs : List Node} {x : Node} → Built ts xs l → Pushed l x m → Built ts (xs ++ (x ∷ [])) m
built_node {x = x} b p = record { formed = p.formed; tables = p.tables ∙ b.tables; nodes = p.nodes ∙ ap (λ (y : List Node). y ++ (x ∷ [])) b.nodes }

-- what opening leaves: a refusal of checks 1 to 5, or the circuit of the file's netlist
pub data Filled (s l : List ℕ) : Verdict → Type 0 where
  turned_away : {k p : ℕ} → decode s ≡ bad k p → Filled s l (Refuses k p)
  read : decode s ≡ good (net_of s l) → Circuit s l → Filled s l Fine

module _ {s l : List ℕ} where
  pub filled-refused : {r : Verdict} {k p : ℕ} → Filled s l r → r ≡ Refuses k p → decode s ≡ bad k p
  filled-refused {k = k} {p} f e = told (subst (Filled s l) e f)
    where
      told : Filled s l (Refuses k p) → decode s ≡ bad k p
      told (turned_away q) = q

  pub filled_fine : {r : Verdict} → Filled s l r → r ≡ Fine → (decode s ≡ good (net_of s l)) × Circuit s l
  filled_fine f e = told (subst (Filled s l) e f)
    where
      told : Filled s l Fine → (decode s ≡ good (net_of s l)) × Circuit s l
      told (read q o) = (q, o)

  -- by what fill_circuit says
  pub filled_by : (r : Result (Unit {0}) Refusal) → IfOk r (λ _. decode s ≡ good (net_of s l)) → IfOk r (λ _. Circuit s l) → IfErr r (λ x. decode s ≡ bad (number_of x) (place_of x)) → Filled s l (said r)
  filled_by (Ok u) q o e = read q o
  filled_by (Err x) q o e = turned_away e
