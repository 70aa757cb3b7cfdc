-- Laws of what specs/Linked.antt defines. Assumes nothing.
use Rattle.std.specs.Prelude.{◌≡◌, List, ℕ, ◌+◌, ◌≤◌, ◌<◌, length, get_or, set, replicate}
use Rattle.std.proofs.Common.{sym, ap, subst, ◌∙◌, arith, length-set, get_or-set_same, get_or-set_other}
use Rattle.std.proofs.Math.Decide.{ℕ_discrete}
use Rattle.std.proofs.lemmas.List.{get_or-replicate, length-replicate}
use Rattle.lists.specs.Linked.{From, LinkedFrom}

-- `In j b` says that place j is in chain b; there are n places
module _ (In : ℕ → ℕ → Type 0) (n : ℕ) where
  -- where none of them is in a chain, and no head is a place
  pub linked_none : (m far : ℕ) (links : List ℕ) (k : ℕ) → n ≤ far → ((j b : ℕ) → k ≤ j → j < n → In j b → ⊥) → LinkedFrom In n (replicate m far) links k
  linked_none m far links k h d = record {
    first = λ b l. record { none = λ j a i e. d j b a e; here = λ i. absurd (omega (arith, get_or-replicate {A = ℕ} m b far 0 (omega (arith, length-replicate {A = ℕ} m far)))) };
    next = λ j b a i l e. absurd (d j b a i e);
  }

  -- linking goes from the last place back
  module _ {heads links : List ℕ} {k : ℕ} (small : k < n) (t : LinkedFrom In n heads links (k + 1)) where
    wider : {b r : ℕ} → (In k b → ⊥) → From In n b (k + 1) r → From In n b k r
    wider {b} d f = record {
      none = λ j a i l e. elim (ℕ_discrete j k) [
        | yes q ↦ d (subst (λ (i : ℕ). In i b) q e)
        | no q ↦ f.none j (omega arith) i l e
      ];
      here = λ l. (omega (arith, (f.here l).0), (f.here l).1);
    }

    -- past a place that is in no chain
    pub linked_past : ((b : ℕ) → In k b → ⊥) → LinkedFrom In n heads links k
    linked_past d = record {
      first = λ b l. wider (d b) (t.first b l);
      next = λ j b a i l e. elim (ℕ_discrete j k) [
        | yes q ↦ absurd (d b (subst (λ (i : ℕ). In i b) q e))
        | no q ↦ t.next j b (omega arith) i l e
      ];
    }

    -- with a place of chain c, whose head it becomes; the old head is the next one
    pub linked_more : (c : ℕ) → In k c → ((b : ℕ) → In k b → b ≡ c) → k < length links → LinkedFrom In n (set heads c k) (set links k (get_or heads c 0)) k
    linked_more c on only long = record { first = first'; next = next' }
      where
        first' : (b : ℕ) → b < length (set heads c k) → From In n b k (get_or (set heads c k) b 0)
        first' b h = elim (ℕ_discrete b c) [
          | yes q ↦ subst (From In n b k) (sym (ap (λ (i : ℕ). get_or (set heads c k) i 0) q ∙ get_or-set_same heads c k 0 (omega (arith, length-set heads c k)))) (record { none = λ j x y. absurd (omega arith); here = λ y. (omega arith, subst (In k) (sym q) on) })
          | no q ↦ subst (From In n b k) (sym (get_or-set_other heads c b k 0 q)) (wider (λ e. q (only b e)) (t.first b (omega (arith, length-set heads c k))))
        ]

        next' : (j b : ℕ) → k ≤ j → j < n → b < length (set heads c k) → In j b → From In n b (j + 1) (get_or (set links k (get_or heads c 0)) j 0)
        next' j b x y h e = elim (ℕ_discrete j k) [
          | yes q ↦ (let s : b ≡ c = only b (subst (λ (i : ℕ). In i b) q e) in
              subst (From In n b (j + 1)) (sym (ap (λ (i : ℕ). get_or (set links k (get_or heads c 0)) i 0) q ∙ get_or-set_same links k (get_or heads c 0) 0 long ∙ ap (λ (i : ℕ). get_or heads i 0) (sym s)))
              (subst (λ (i : ℕ). From In n b (i + 1) (get_or heads b 0)) (sym q) (t.first b (omega (arith, length-set heads c k)))))
          | no q ↦ subst (From In n b (j + 1)) (sym (get_or-set_other links k j (get_or heads c 0) 0 q)) (t.next j b (omega arith) y (omega (arith, length-set heads c k)) e)
        ]

-- what matters of the chains are the places from k on
pub linked_as : {In In' : ℕ → ℕ → Type 0} {n k : ℕ} {heads links : List ℕ} → ((j b : ℕ) → k ≤ j → In j b → In' j b) → ((j b : ℕ) → k ≤ j → In' j b → In j b) → LinkedFrom In n heads links k → LinkedFrom In' n heads links k
linked_as {In} {In'} {n} {k} to fro t = record {
  first = λ b l. turned b k (t.first b l) (omega arith);
  next = λ j b a i l e. turned b (j + 1) (t.next j b a i l (fro j b a e)) (omega arith);
}
  where
    turned : (b i : ℕ) {r : ℕ} → From In n b i r → k ≤ i → From In' n b i r
    turned b i f h = record {
      none = λ j a l d e. f.none j a l d (fro j b (omega arith) e);
      here = λ l. ((f.here l).0, to _ b (omega (arith, (f.here l).0)) (f.here l).1);
    }
