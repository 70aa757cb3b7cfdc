-- What stands in a list made by `concat_map`, `only` and `distinct`, and that `distinct` leaves each element once. Assumes nothing.
use Rattle.std.specs.Prelude.{◌≡◌, refl, ◌⊎◌, Bool, true, false, ◌||◌, List, [], ◌∷◌, ◌++◌, ℕ, zero, suc, ◌+◌, ◌<◌, length, get_or, eqb}
use Rattle.std.proofs.Common.{sym, ap, ◌∙◌, subst, inl, inr, ⊎_elim, true≢false, not-suc-le-zero, le_of_suc-le-suc, arith}
use Rattle.std.proofs.lemmas.Bool.{false≢true}
use Rattle.lists.specs.Lists.{up_from, below, concat_map, only, has, find, add_new, distinct_from, distinct}
use Rattle.lists.proofs.BelowLaws.{true_or_false, eqb-true, eqb_self, eqb_differ}
use Rattle.lists.proofs.ListsLaws.{get_or_has}
use Rattle.lists.specs.DistinctLaws.{Once}

pub has_append_cases : (c : ℕ) (l m : List ℕ) → has c (l ++ m) ≡ true → (has c l ≡ true) ⊎ (has c m ≡ true)
has_append_cases c [] m e = inr e
has_append_cases c (x ∷ l) m e =
    ⊎_elim (λ t. inl (rw t)) (λ t. ⊎_elim (λ a. inl (rw t a)) (λ a. inr a) (has_append_cases c l m (rw t at e))) (true_or_false (eqb c x))

has_one : (c x : ℕ) → has c (x ∷ []) ≡ true → c ≡ x
has_one c x e = ⊎_elim (λ t. eqb-true t) (λ t. absurd (false≢true (rw t at e))) (true_or_false (eqb c x))

pub has_only : (c : ℕ) (b : Bool) (x : ℕ) → has c (only b x) ≡ true → (b ≡ true) × (c ≡ x)
has_only c true x e = (refl, has_one c x e)
has_only c false x e = absurd (false≢true e)

has_add_new_cases : (c x : ℕ) (l : List ℕ) → has c (add_new x l) ≡ true → (has c l ≡ true) ⊎ (c ≡ x)
has_add_new_cases c x l e =
    ⊎_elim (λ t. inl (rw t at e)) (λ t. ⊎_elim (λ a. inl a) (λ a. inr (has_one c x a)) (has_append_cases c l (x ∷ []) (rw t at e))) (true_or_false (has x l))

has_distinct_from_cases : (c : ℕ) (l xs : List ℕ) → has c (distinct_from l xs) ≡ true → (has c l ≡ true) ⊎ (has c xs ≡ true)
has_distinct_from_cases c l [] e = inl e
has_distinct_from_cases c l (x ∷ xs) e =
    ⊎_elim (λ a. ⊎_elim (λ b. inl b) (λ b. inr (subst (λ (y : ℕ). has c (y ∷ xs) ≡ true) b (rw (eqb_self c)))) (has_add_new_cases c x l a))
    (λ a. inr (⊎_elim (λ t. rw t) (λ t. rw t a) (true_or_false (eqb c x)))) (has_distinct_from_cases c (add_new x l) xs e)

pub has_distinct_inverse : (c : ℕ) (xs : List ℕ) → has c (distinct xs) ≡ true → has c xs ≡ true
has_distinct_inverse c xs e = ⊎_elim (λ a. absurd (false≢true a)) (λ a. a) (has_distinct_from_cases c [] xs e)

has_up_from_cases : (f : ℕ → List ℕ) (c i k : ℕ) → has c (concat_map f (up_from i k)) ≡ true → (v : ℕ) × (v < i + k) × (has c (f v) ≡ true)
has_up_from_cases f c i zero e = absurd (false≢true e)
has_up_from_cases f c i (suc k) e =
    ⊎_elim (λ a. (i, omega arith, a)) (λ a. let r = has_up_from_cases f c (suc i) k a in (r.0, omega (arith, r.1), r.2)) (has_append_cases c (f i) (concat_map f (up_from (suc i) k)) e)

pub has_concat_below_inverse : (f : ℕ → List ℕ) (c n : ℕ) → has c (concat_map f (below n)) ≡ true → (v : ℕ) × (v < n) × (has c (f v) ≡ true)
has_concat_below_inverse f c n e = let r = has_up_from_cases f c 0 n e in (r.0, omega (arith, r.1), r.2)

once_snoc : (l : List ℕ) (x : ℕ) → Once l → has x l ≡ false → Once (l ++ x ∷ [])
once_snoc [] x o e = (refl, tt)
once_snoc (y ∷ l) x o e =
    (⊎_elim (λ t. absurd (clash (has_append_cases y l (x ∷ []) t))) (λ t. t) (true_or_false (has y (l ++ x ∷ []))), once_snoc l x o.1 later)
  where
    apart : eqb x y ≡ false
    apart = ⊎_elim (λ t. absurd (true≢false (subst (λ (b : Bool). (b || has x l) ≡ false) t e))) (λ t. t) (true_or_false (eqb x y))

    later : has x l ≡ false
    later = subst (λ (b : Bool). (b || has x l) ≡ false) apart e

    clash : (has y l ≡ true) ⊎ (has y (x ∷ []) ≡ true) → ⊥
    clash (inl a) = true≢false (sym a ∙ o.0)
    clash (inr a) = eqb_differ apart (sym (has_one y x a))

once_add_new : (x : ℕ) (l : List ℕ) → Once l → Once (add_new x l)
once_add_new x l o = ⊎_elim (λ t. rw t o) (λ t. rw t (once_snoc l x o t)) (true_or_false (has x l))

once_distinct_from : (l xs : List ℕ) → Once l → Once (distinct_from l xs)
once_distinct_from l [] o = o
once_distinct_from l (x ∷ xs) o = once_distinct_from (add_new x l) xs (once_add_new x l o)

pub once_distinct : (xs : List ℕ) → Once (distinct xs)
once_distinct xs = once_distinct_from [] xs tt

-- there an element is found where it stands
pub find_get_or : (l : List ℕ) (j d : ℕ) → Once l → j < length l → find (get_or l j d) l ≡ j
find_get_or [] j d o h = absurd (not-suc-le-zero h)
find_get_or (x ∷ l) zero d o h = rw (eqb_self x)
find_get_or (x ∷ l) (suc j) d o h = rw apart (ap suc (find_get_or l j d o.1 (le_of_suc-le-suc h)))
  where
    apart : eqb (get_or l j d) x ≡ false
    apart =
        ⊎_elim (λ t. absurd (true≢false (sym (subst (λ (y : ℕ). has y l ≡ true) (eqb-true t) (get_or_has l j d (le_of_suc-le-suc h))) ∙ o.0))) (λ t. t) (true_or_false (eqb (get_or l j d) x))
