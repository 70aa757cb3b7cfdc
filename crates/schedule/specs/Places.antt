-- For each node of a list the first place where it stands. Assumes nothing.
use Rattle.std.specs.Prelude.{◌≡◌, ◌≢◌, ◌⊎◌, List, ℕ, ◌+◌, ◌≤◌, ◌<◌, length, get_or, set, replicate, eqb}
use Rattle.std.proofs.Common.{sym, ap, ◌∙◌, inl, inr, ⊎_elim, arith, length-set, get_or-set_same, get_or-set_other}
use Rattle.std.proofs.lemmas.List.{length-replicate, get_or-replicate}
use Rattle.lists.proofs.BelowLaws.{true_or_false, lt_or_le, eqb-true, eqb_differ}
use Rattle.circuit.specs.Order.{Stands}

-- all are places of lines, also those of nodes that have none
abbrev pub Near : List ℕ → Type 0
Near places = (v : ℕ) → v < length places → get_or places v 0 < 2048

pub near_zeros : (n : ℕ) → Near (replicate n 0)
near_zeros n v h = omega (arith, get_or-replicate {A = ℕ} n v 0 0 (omega (arith, length-replicate {A = ℕ} n 0)))

-- what stands at j is found at i, which is not behind it
pub record Placed (nodes : List ℕ) (j i : ℕ) : Type 0 where
  pub first : i ≤ j
  pub right : get_or nodes i 0 ≡ get_or nodes j 0

-- what stands from i on below s is found
pub record PlacedFrom (nodes places : List ℕ) (s i : ℕ) : Type 0 where
  pub near : Near places
  pub each : (j : ℕ) → i ≤ j → j < s → Placed nodes j (get_or places (get_or nodes j 0) 0)

pub placed_none : (nodes places : List ℕ) (s : ℕ) → Near places → PlacedFrom nodes places s s
placed_none nodes places s h = record { near = h; each = λ j a b. absurd (omega arith) }

-- place k is put, over what was found behind it
module _ {nodes places : List ℕ} {s i k : ℕ} (t : PlacedFrom nodes places s i) (e : i ≡ k + 1) (low : k < 2048) (h : get_or nodes k 0 < length places) where
  abbrev after : List ℕ
  after = set places (get_or nodes k 0) k

  -- a place is the new one, or what it was
  put : (v : ℕ) → ((v ≡ get_or nodes k 0) × (get_or after v 0 ≡ k)) ⊎ ((v ≢ get_or nodes k 0) × (get_or after v 0 ≡ get_or places v 0))
  put v =
      ⊎_elim (λ q. inl (eqb-true q, ap (λ (u : ℕ). get_or after u 0) (eqb-true q) ∙ get_or-set_same places (get_or nodes k 0) k 0 h))
      (λ q. inr (eqb_differ q, get_or-set_other places (get_or nodes k 0) v k 0 (eqb_differ q))) (true_or_false (eqb v (get_or nodes k 0)))

  pub placed_more : PlacedFrom nodes after s k
  placed_more = record {
    near = λ v l. ⊎_elim (λ q. omega (arith, q.1)) (λ q. omega (arith, q.1, t.near v (omega (arith, length-set places (get_or nodes k 0) k)))) (put v);
    each = λ j a b. ⊎_elim (λ (u, x). record { first = omega (arith, x); right = ap (λ (y : ℕ). get_or nodes y 0) x ∙ sym u }) (λ (u, x). rw x (t.each j (later j a u) b)) (put (get_or nodes j 0));
  }
    where
      later : (j : ℕ) → k ≤ j → get_or nodes j 0 ≢ get_or nodes k 0 → i ≤ j
      later j a u = ⊎_elim (λ l. absurd (u (ap (λ (y : ℕ). get_or nodes y 0) (let q : j ≡ k = omega arith in q)))) (λ l. l) (lt_or_le j i)

-- who stands below b is found below b
pub placed_reads : {nodes places : List ℕ} {s b v : ℕ} → PlacedFrom nodes places s 0 → b ≤ s → Stands nodes b v → (get_or places v 0 < b) × (get_or nodes (get_or places v 0) 0 ≡ v)
placed_reads {nodes} {places} {v = v} t h (j, l, e) =
    let r = t.each j (omega arith) (omega arith) in
    let same : get_or places v 0 ≡ get_or places (get_or nodes j 0) 0 = ap (λ (u : ℕ). get_or places u 0) (sym e) in
    (omega (arith, same, r.first), ap (λ (y : ℕ). get_or nodes y 0) same ∙ r.right ∙ e)
