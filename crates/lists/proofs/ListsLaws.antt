-- Laws of lists: one after the other, what holds of every element, what passes a test, membership and position. Assumes nothing.
use Rattle.std.specs.Prelude.{◌≡◌, refl, Bool, true, false, List, [], ◌∷◌, ◌++◌, map, ℕ, zero, suc, ◌+◌, ◌-◌, ◌≤◌, ◌<◌, length, get_or, take, eqb}
use Rattle.std.proofs.Common.{sym, ap, ap₂, ◌∙◌, subst, ⊎_elim, append_assoc, append-nil, zero-le, suc-le-suc, zero-add, add-zero, suc-add, add-suc, add_assoc, not-suc-le-zero, le_of_suc-le-suc, add-one, arith, length-append, get_or-append-add, ext_get_or, take-suc}
use Rattle.std.proofs.lemmas.Bool.{false≢true}
use Rattle.std.proofs.Math.ListN.{get_or-append}
use Rattle.lists.specs.Lists.{up_from, below, concat_map, offset, only, select, one, count_below, has, find, add_new, distinct_from, distinct}
use Rattle.lists.proofs.BelowLaws.{eqb_self, eqb-true, get_or_below, length-below, length_listed, get_or_listed, lt_or_le, take_up_from, true_or_false}

-- ---- lists one after the other

module _ {A B : Type 0} (f : A → List B) where
  pub get_or_concat_map : (xs : List A) (i j : ℕ) (a : A) (b : B) → i < length xs → j < length (f (get_or xs i a))
      → get_or (concat_map f xs) (offset f xs i + j) b ≡ get_or (f (get_or xs i a)) j b
  get_or_concat_map [] i j a b hi hj = absurd (not-suc-le-zero hi)
  get_or_concat_map (x ∷ xs) zero j a b hi hj = rw (zero-add j) (get_or-append (f x) (concat_map f xs) b j hj)
  get_or_concat_map (x ∷ xs) (suc i) j a b hi hj =
      rw (length-append (f x) (concat_map f (take i xs)), add_assoc, get_or-append-add) (get_or_concat_map xs i j a b (le_of_suc-le-suc hi) hj)

  pub offset-lt : (xs : List A) (i j : ℕ) (a : A) → i < length xs → j < length (f (get_or xs i a)) → offset f xs i + j < length (concat_map f xs)
  offset-lt [] i j a hi hj = absurd (not-suc-le-zero hi)
  offset-lt (x ∷ xs) zero j a hi hj = simp length-append (omega arith)
  offset-lt (x ∷ xs) (suc i) j a hi hj = simp length-append (omega (arith, offset-lt xs i j a (le_of_suc-le-suc hi) hj))

  offset-suc : (x : A) (xs : List A) (i j : ℕ) → offset f (x ∷ xs) (suc i) + j ≡ length (f x) + (offset f xs i + j)
  offset-suc x xs i j = ap (λ (n : ℕ). n + j) (length-append (f x) (concat_map f (take i xs))) ∙ add_assoc (length (f x)) (offset f xs i) j

  -- place k of the whole is place j of the part of the i-th element
  abbrev InPart : List A → ℕ → A → Type 0
  InPart xs k a = (i : ℕ) × (j : ℕ) × (i < length xs) × (j < length (f (get_or xs i a))) × (k ≡ offset f xs i + j)

  in_later : (x : A) (xs : List A) (k : ℕ) (a : A) → length (f x) ≤ k → InPart xs (k - length (f x)) a → InPart (x ∷ xs) k a
  in_later x xs k a l (i, j, hi, hj, e) = (suc i, j, suc-le-suc hi, hj, omega (arith, offset-suc x xs i j))

  pub in_part : (xs : List A) (k : ℕ) (a : A) → k < length (concat_map f xs)
      → (i : ℕ) × (j : ℕ) × (i < length xs) × (j < length (f (get_or xs i a))) × (k ≡ offset f xs i + j)
  in_part [] k a h = absurd (not-suc-le-zero h)
  in_part (x ∷ xs) k a h =
      ⊎_elim (λ l. (0, k, suc-le-suc zero-le, l, sym (zero-add k)))
      (λ l. in_later x xs k a l (in_part xs (k - length (f x)) a (omega (arith, simp length-append at h))))
      (lt_or_le k (length (f x)))

-- the same where the list is the numbers below n
module _ {B : Type 0} (f : ℕ → List B) (n i j : ℕ) (hi : i < n) (hj : j < length (f i)) where
  pub get_or_concat_below : (b : B) → get_or (concat_map f (below n)) (offset f (below n) i + j) b ≡ get_or (f i) j b
  get_or_concat_below b =
      get_or_concat_map f (below n) i j 0 b (rw length-below hi) (rw (get_or_below n i 0 hi) hj) ∙ ap (λ (k : ℕ). get_or (f k) j b) (get_or_below n i 0 hi)

  pub offset-below-lt : offset f (below n) i + j < length (concat_map f (below n))
  offset-below-lt = offset-lt f (below n) i j 0 (rw length-below hi) (rw (get_or_below n i 0 hi) hj)

pub in_part-below : {B : Type 0} (f : ℕ → List B) (n k : ℕ) → k < length (concat_map f (below n))
    → (i : ℕ) × (j : ℕ) × (i < n) × (j < length (f i)) × (k ≡ offset f (below n) i + j)
in_part-below f n k h = plain (in_part f (below n) k 0 h)
  where
    plain : (i : ℕ) × (j : ℕ) × (i < length (below n)) × (j < length (f (get_or (below n) i 0))) × (k ≡ offset f (below n) i + j)
        → (i : ℕ) × (j : ℕ) × (i < n) × (j < length (f i)) × (k ≡ offset f (below n) i + j)
    plain (i, j, hi, hj, e) = let l : i < n = rw length-below at hi in (i, j, l, subst (λ (v : ℕ). j < length (f v)) (get_or_below n i 0 l) hj, e)

module _ {A B : Type 0} where
  pub concat_map-append : (f : A → List B) (xs ys : List A) → concat_map f (xs ++ ys) ≡ concat_map f xs ++ concat_map f ys
  concat_map-append f [] ys = refl
  concat_map-append f (x ∷ xs) ys = ap (λ (l : List B). f x ++ l) (concat_map-append f xs ys) ∙ sym (append_assoc (f x) (concat_map f xs) (concat_map f ys))

  pub concat_map-below_get_or : (h : ℕ → List B) (g : A → List B) (l : List A) (d : A) (i : ℕ)
      → ((v : ℕ) → v < length l → h (i + v) ≡ g (get_or l v d)) → concat_map h (up_from i (length l)) ≡ concat_map g l
  concat_map-below_get_or h g [] d i e = refl
  concat_map-below_get_or h g (x ∷ l) d i e =
      ap₂ ◌++◌ (ap h (sym (add-zero i)) ∙ e 0 (suc-le-suc zero-le))
      (concat_map-below_get_or h g l d (suc i) (λ v k. ap h (suc-add i v ∙ sym (add-suc i v)) ∙ e (suc v) (suc-le-suc k)))

-- the parts of the first elements, and of one more
pub concat_map_next : {A B : Type 0} (f : A → List B) (xs : List A) (i : ℕ) (d : A) → i < length xs → concat_map f (take (i + 1) xs) ≡ concat_map f (take i xs) ++ f (get_or xs i d)
concat_map_next {B = B} f xs i d h =
    ap (λ (k : ℕ). concat_map f (take k xs)) (add-one i) ∙ ap (concat_map f) (take-suc xs i d h) ∙ concat_map-append f (take i xs) (get_or xs i d ∷ [])
    ∙ ap (λ (y : List B). concat_map f (take i xs) ++ y) (append-nil (f (get_or xs i d)))

-- of parts that are given
pub concat_map-map : {A B : Type 0} (f : A → List B) (xs : List A) → concat_map (λ b. b) (map f xs) ≡ concat_map f xs
concat_map-map f [] = refl
concat_map-map {B = B} f (x ∷ xs) = ap (λ (l : List B). f x ++ l) (concat_map-map f xs)

pub concat_map_none : {A B : Type 0} (f : A → List B) (xs : List A) → ((i : ℕ) (d : A) → i < length xs → f (get_or xs i d) ≡ []) → concat_map f xs ≡ []
concat_map_none f [] e = refl
concat_map_none f (x ∷ xs) e = rw (e 0 x (suc-le-suc zero-le)) (concat_map_none f xs (λ i d l. e (suc i) d (suc-le-suc l)))

pub concat_map-cong : {B : Type 0} (f g : ℕ → List B) (i k : ℕ) → ((v : ℕ) → v < i + k → f v ≡ g v) → concat_map f (up_from i k) ≡ concat_map g (up_from i k)
concat_map-cong f g i zero e = refl
concat_map-cong f g i (suc k) e = ap₂ ◌++◌ (e i (omega arith)) (concat_map-cong f g (suc i) k (λ v l. e v (omega arith)))

pub concat_map-concat_map : {A B C : Type 0} (g : B → List C) (f : A → List B) (xs : List A) → concat_map g (concat_map f xs) ≡ concat_map (λ x. concat_map g (f x)) xs
concat_map-concat_map g f [] = refl
concat_map-concat_map {C = C} g f (x ∷ xs) = concat_map-append g (f x) (concat_map f xs) ∙ ap (λ (l : List C). concat_map g (f x) ++ l) (concat_map-concat_map g f xs)

-- ---- what holds of every element

module _ {A : Type 0} (P : A → Type 0) where
  abbrev pub All : List A → Type 0
  All [] = Unit {0}
  All (x ∷ xs) = P x × All xs

  pub all_append : (l m : List A) → All l → All m → All (l ++ m)
  all_append [] m a b = b
  all_append (x ∷ l) m a b = (a.0, all_append l m a.1 b)

  pub all_get_d : (l : List A) (i : ℕ) (d : A) → All l → i < length l → P (get_or l i d)
  all_get_d [] i d a h = absurd (not-suc-le-zero h)
  all_get_d (x ∷ l) zero d a h = a.0
  all_get_d (x ∷ l) (suc i) d a h = all_get_d l i d a.1 (le_of_suc-le-suc h)

  all_up_from : (f : ℕ → List A) (i k n : ℕ) → i + k ≤ n → ((v : ℕ) → v < n → All (f v)) → All (concat_map f (up_from i k))
  all_up_from f i zero n l h = tt
  all_up_from f i (suc k) n l h = all_append (f i) (concat_map f (up_from (suc i) k)) (h i (omega arith)) (all_up_from f (suc i) k n (omega arith) h)

  pub all_concat_below : (f : ℕ → List A) (n : ℕ) → ((v : ℕ) → v < n → All (f v)) → All (concat_map f (below n))
  all_concat_below f n h = all_up_from f 0 n n (omega arith) h

  -- where the parts come from the elements of a list of numbers
  all_within : (f : ℕ → List A) (l m : List ℕ) → ((c : ℕ) → has c l ≡ true → has c m ≡ true) → ((c : ℕ) → has c m ≡ true → All (f c)) → All (concat_map f l)
  all_within f [] m k h = tt
  all_within f (x ∷ l) m k h =
      all_append (f x) (concat_map f l) (h x (k x (rw (eqb_self x))))
      (all_within f l m (λ c e. k c (⊎_elim (λ t. rw t) (λ t. rw t e) (true_or_false (eqb c x)))) h)

  pub all_concat_map : (f : ℕ → List A) (l : List ℕ) → ((c : ℕ) → has c l ≡ true → All (f c)) → All (concat_map f l)
  all_concat_map f l h = all_within f l l (λ c e. e) h

  pub all_map : (g : ℕ → A) (l : List ℕ) → ((c : ℕ) → has c l ≡ true → P (g c)) → All (map g l)
  all_map g [] h = tt
  all_map g (x ∷ l) h = (h x (rw (eqb_self x)), all_map g l (λ c e. h c (⊎_elim (λ t. rw t) (λ t. rw t e) (true_or_false (eqb c x)))))

  all_listed_from : (g : ℕ → A) (i k n : ℕ) → i + k ≤ n → ((v : ℕ) → v < n → P (g v)) → All (map g (up_from i k))
  all_listed_from g i zero n l h = tt
  all_listed_from g i (suc k) n l h = (h i (omega arith), all_listed_from g (suc i) k n (omega arith) h)

  pub all_listed : (g : ℕ → A) (n : ℕ) → ((v : ℕ) → v < n → P (g v)) → All (map g (below n))
  all_listed g n h = all_listed_from g 0 n n (omega arith) h

-- ---- what passes a test, in order

length_only : {A : Type 0} (b : Bool) (a : A) → length (only b a) ≡ one b
length_only true a = refl
length_only false a = refl

length_selected : {A : Type 0} (q : ℕ → Bool) (h : ℕ → A) (i k : ℕ) → count_below q i + length (concat_map (λ v. only (q v) (h v)) (up_from i k)) ≡ count_below q (i + k)
length_selected q h i zero = rw (add-zero i) (omega arith)
length_selected q h i (suc k) =
    rw (length-append (only (q i) (h i)), add-suc i k)
    (omega (arith, length_only (q i) (h i), length_selected q h (suc i) k, ap (λ (m : ℕ). count_below q m) (suc-add i k)))

pub length-select : {A : Type 0} (q : ℕ → Bool) (h : ℕ → A) (n : ℕ) → length (select q h n) ≡ count_below q n
length-select q h n = omega (arith, length_selected q h 0 n, ap (λ (m : ℕ). count_below q m) (zero-add n))

offset-select : {A : Type 0} (q : ℕ → Bool) (h : ℕ → A) (n v : ℕ) → v ≤ n → offset (λ u. only (q u) (h u)) (below n) v ≡ count_below q v
offset-select q h n v l = ap (λ (m : List ℕ). length (concat_map (λ u. only (q u) (h u)) m)) (take_up_from 0 n v l) ∙ length-select q h v

pub get_or_select : {A : Type 0} (q : ℕ → Bool) (h : ℕ → A) (n v : ℕ) (d : A) → v < n → q v ≡ true → get_or (select q h n) (count_below q v) d ≡ h v
get_or_select {A} q h n v d l t =
    rw (← offset-select q h n v (omega arith), ← add-zero (offset f (below n) v))
    (get_or_concat_map f (below n) v 0 0 d (rw length-below l) (rw (get_or_below n v 0 l, t) (suc-le-suc zero-le)) ∙ rw (get_or_below n v 0 l, t))
  where
    f : ℕ → List A
    f u = only (q u) (h u)

-- ---- membership and position

pub has_append_left : (c : ℕ) (l m : List ℕ) → has c l ≡ true → has c (l ++ m) ≡ true
has_append_left c [] m e = absurd (false≢true e)
has_append_left c (x ∷ l) m e = ⊎_elim (λ t. rw t) (λ t. rw t (has_append_left c l m (rw t at e))) (true_or_false (eqb c x))

pub has_append_right : (c : ℕ) (l m : List ℕ) → has c m ≡ true → has c (l ++ m) ≡ true
has_append_right c [] m e = e
has_append_right c (x ∷ l) m e = ⊎_elim (λ t. rw t) (λ t. rw t (has_append_right c l m e)) (true_or_false (eqb c x))

has_self : (c : ℕ) (l : List ℕ) → has c (c ∷ l) ≡ true
has_self c l = rw (eqb_self c)

has_add_new : (c x : ℕ) (l : List ℕ) → has c l ≡ true → has c (add_new x l) ≡ true
has_add_new c x l e = ⊎_elim (λ t. rw t e) (λ t. rw t (has_append_left c l (x ∷ []) e)) (true_or_false (has x l))

has_added : (x : ℕ) (l : List ℕ) → has x (add_new x l) ≡ true
has_added x l = ⊎_elim (λ t. rw t t) (λ t. rw t (has_append_right x l (x ∷ []) (has_self x []))) (true_or_false (has x l))

has_distinct_from : (c : ℕ) (l xs : List ℕ) → has c l ≡ true → has c (distinct_from l xs) ≡ true
has_distinct_from c l [] e = e
has_distinct_from c l (x ∷ xs) e = has_distinct_from c (add_new x l) xs (has_add_new c x l e)

has_distinct_from-new : (c : ℕ) (l xs : List ℕ) → has c xs ≡ true → has c (distinct_from l xs) ≡ true
has_distinct_from-new c l [] e = absurd (false≢true e)
has_distinct_from-new c l (x ∷ xs) e =
    ⊎_elim (λ t. has_distinct_from c (add_new x l) xs (subst (λ (y : ℕ). has y (add_new x l) ≡ true) (sym (eqb-true t)) (has_added x l)))
    (λ t. has_distinct_from-new c (add_new x l) xs (rw t at e)) (true_or_false (eqb c x))

pub has_distinct : (c : ℕ) (xs : List ℕ) → has c xs ≡ true → has c (distinct xs) ≡ true
has_distinct c xs e = has_distinct_from-new c [] xs e

pub has_concat_map : {A : Type 0} (f : A → List ℕ) (c : ℕ) (xs : List A) (i : ℕ) (a : A) → i < length xs → has c (f (get_or xs i a)) ≡ true → has c (concat_map f xs) ≡ true
has_concat_map f c [] i a h e = absurd (not-suc-le-zero h)
has_concat_map f c (x ∷ xs) zero a h e = has_append_left c (f x) (concat_map f xs) e
has_concat_map f c (x ∷ xs) (suc i) a h e = has_append_right c (f x) (concat_map f xs) (has_concat_map f c xs i a (le_of_suc-le-suc h) e)

-- the same where the list is the numbers below n
pub has_concat_below : (f : ℕ → List ℕ) (c n i : ℕ) → i < n → has c (f i) ≡ true → has c (concat_map f (below n)) ≡ true
has_concat_below f c n i h e = has_concat_map f c (below n) i 0 (rw length-below h) (rw (get_or_below n i 0 h) e)

pub find-lt : (c : ℕ) (l : List ℕ) → has c l ≡ true → find c l < length l
find-lt c [] e = absurd (false≢true e)
find-lt c (x ∷ l) e = ⊎_elim (λ t. rw t (suc-le-suc zero-le)) (λ t. rw t (suc-le-suc (find-lt c l (rw t at e)))) (true_or_false (eqb c x))

pub get_or_find : (c : ℕ) (l : List ℕ) (d : ℕ) → has c l ≡ true → get_or l (find c l) d ≡ c
get_or_find c [] d e = absurd (false≢true e)
get_or_find c (x ∷ l) d e = ⊎_elim (λ t. rw t (sym (eqb-true t))) (λ t. rw t (get_or_find c l d (rw t at e))) (true_or_false (eqb c x))

pub get_or_has : (l : List ℕ) (i d : ℕ) → i < length l → has (get_or l i d) l ≡ true
get_or_has [] i d h = absurd (not-suc-le-zero h)
get_or_has (x ∷ l) zero d h = has_self x l
get_or_has (x ∷ l) (suc i) d h = ⊎_elim (λ t. rw t) (λ t. rw t (get_or_has l i d (le_of_suc-le-suc h))) (true_or_false (eqb (get_or l i d) x))

-- a list of no length
pub no_length : (l : List ℕ) → length l ≡ 0 → l ≡ []
no_length [] e = refl
no_length (x ∷ l) e = absurd (omega arith)

-- a map of two lists in a row
pub map-append : {A B : Type 0} (f : A → B) (l m : List A) → map f (l ++ m) ≡ map f l ++ map f m
map-append f [] m = refl
map-append {B = B} f (x ∷ l) m = ap (λ (y : List B). f x ∷ y) (map-append f l m)

-- of two that agree below a number
pub listed_same : (g h : ℕ → ℕ) (n : ℕ) → ((v : ℕ) → v < n → g v ≡ h v) → map g (below n) ≡ map h (below n)
listed_same g h n e =
    ext_get_or 0 (map g (below n)) (map h (below n)) (length_listed g n ∙ sym (length_listed h n))
    (λ v l. let k : v < n = omega (arith, length_listed g n) in get_or_listed g n v 0 k ∙ e v k ∙ sym (get_or_listed h n v 0 k))
