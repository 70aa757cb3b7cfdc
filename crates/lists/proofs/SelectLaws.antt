-- What passes a test: one number more, and the numbers themselves, by their places. Assumes nothing.
use Rattle.std.specs.Prelude.{◌≡◌, refl, Bool, true, false, List, [], ◌∷◌, ◌++◌, map, ℕ, zero, suc, ◌+◌, ◌≤◌, ◌<◌, length, get_or, set, take}
use Rattle.std.proofs.Common.{sym, ap, ap₂, subst, ◌∙◌, ⊎_elim, append-nil, zero-add, add-zero, not-suc-le-zero, add-one, arith, take-suc-set}
use Rattle.std.proofs.lemmas.List.{take-set-le}
use Rattle.lists.specs.Lists.{up_from, below, concat_map, only, select, one, count_below}
use Rattle.lists.proofs.BelowLaws.{true_or_false, lt_or_le, length_up_from, get_or_up_from, up_from_split}
use Rattle.lists.proofs.ListsLaws.{concat_map-append, concat_map_none, concat_map-cong, length-select, get_or_select, map-append}
use Rattle.lists.specs.SelectLaws.{Member}

-- ---- one number more

pub concat-more : {A : Type 0} (f : ℕ → List A) (n : ℕ) → concat_map f (below (n + 1)) ≡ concat_map f (below n) ++ f n
concat-more {A} f n =
    ap (concat_map f) (up_from_split 0 n 1) ∙ concat_map-append f (up_from 0 n) (up_from (0 + n) 1)
    ∙ ap (λ (l : List A). concat_map f (below n) ++ l) (append-nil (f (0 + n)) ∙ ap f (zero-add n))

pub select-more : {A : Type 0} (q : ℕ → Bool) (h : ℕ → A) (n : ℕ) → select q h (n + 1) ≡ select q h n ++ only (q n) (h n)
select-more q h n = concat-more (λ v. only (q v) (h v)) n

-- an element put behind the first k, which counts or not
take_put : (l : List ℕ) (k x : ℕ) (b : Bool) → k < length l → take (k + one b) (set l k x) ≡ take k l ++ only b x
take_put l k x true h = rw (add-one k) (take-suc-set l k x h)
take_put l k x false h = rw (add-zero k, append-nil) (take-set-le k l k x (omega arith))

-- the numbers that pass, one after the other
pub list_more : (q : ℕ → Bool) (l : List ℕ) (k n : ℕ) → k < length l → take k l ≡ select q (λ v. v) n → take (k + one (q n)) (set l k n) ≡ select q (λ v. v) (n + 1)
list_more q l k n h e = take_put l k n (q n) h ∙ ap (λ (m : List ℕ). m ++ only (q n) n) e ∙ sym (select-more q (λ v. v) n)

-- ---- only what it gives of those that pass counts

only_same : {A : Type 0} (b : Bool) (x y : A) → (b ≡ true → x ≡ y) → only b x ≡ only b y
only_same true x y e = ap (λ z. z ∷ []) (e refl)
only_same false x y e = refl

pub select_same : {A : Type 0} (q : ℕ → Bool) (h g : ℕ → A) (n : ℕ) → ((v : ℕ) → v < n → q v ≡ true → h v ≡ g v) → select q h n ≡ select q g n
select_same q h g n e = concat_map-cong (λ v. only (q v) (h v)) (λ v. only (q v) (g v)) 0 n (λ v l. only_same (q v) (h v) (g v) (e v (omega arith)))

-- ---- a map of what passes

map_only : {A B : Type 0} (f : A → B) (b : Bool) (x : A) → map f (only b x) ≡ only b (f x)
map_only f true x = refl
map_only f false x = refl

pub map-select : {A B : Type 0} (f : A → B) (q : ℕ → Bool) (h : ℕ → A) (n : ℕ) → map f (select q h n) ≡ select q (λ v. f (h v)) n
map-select {A} {B} f q h n = go (below n)
  where
    go : (xs : List ℕ) → map f (concat_map (λ v. only (q v) (h v)) xs) ≡ concat_map (λ v. only (q v) (f (h v))) xs
    go [] = refl
    go (x ∷ xs) = map-append f (only (q x) (h x)) (concat_map (λ v. only (q v) (h v)) xs) ∙ ap₂ (λ (a b : List B). a ++ b) (map_only f (q x) (h x)) (go xs)

-- ---- the first k pass, and no other

concat_single : {A : Type 0} (h : ℕ → A) (xs : List ℕ) → concat_map (λ v. h v ∷ []) xs ≡ map h xs
concat_single h [] = refl
concat_single {A} h (x ∷ xs) = ap (λ (l : List A). h x ∷ l) (concat_single h xs)

pub select-first : {A : Type 0} (q : ℕ → Bool) (h : ℕ → A) (k m : ℕ) → ((v : ℕ) → v < k → q v ≡ true) → ((v : ℕ) → k ≤ v → v < k + m → q v ≡ false) → select q h (k + m) ≡ map h (below k)
select-first {A} q h k m on off =
    ap (concat_map (λ v. only (q v) (h v))) (up_from_split 0 k m)
    ∙ concat_map-append (λ v. only (q v) (h v)) (below k) (up_from (0 + k) m)
    ∙ ap₂ (λ (a b : List A). a ++ b) first (concat_map_none (λ v. only (q v) (h v)) (up_from (0 + k) m) none)
    ∙ append-nil (map h (below k))
  where
    first : select q h k ≡ map h (below k)
    first = concat_map-cong (λ v. only (q v) (h v)) (λ v. h v ∷ []) 0 k (λ v l. ap (λ (b : Bool). only b (h v)) (on v (omega arith))) ∙ concat_single h (below k)

    none : (i d : ℕ) → i < length (up_from (0 + k) m) → only (q (get_or (up_from (0 + k) m) i d)) (h (get_or (up_from (0 + k) m) i d)) ≡ []
    none i d l =
        let e = get_or_up_from (0 + k) m i d (omega (arith, length_up_from (0 + k) m)) in
        rw e (ap (λ (b : Bool). only b (h (0 + k + i))) (off (0 + k + i) (omega arith) (omega (arith, length_up_from (0 + k) m))))

pub some_member : (q : ℕ → Bool) (n i : ℕ) → i < count_below q n → (v : ℕ) × Member q n i v
some_member q zero i h = absurd (not-suc-le-zero h)
some_member q (suc n) i h =
    ⊎_elim (λ l. let r = some_member q n i l in (r.0, record { on = r.1.on; low = omega (arith, r.1.low); place = r.1.place }))
    (λ l. ⊎_elim (λ t. (n, record { on = t; low = omega arith; place = omega (arith, ap one t) })) (λ t. absurd (omega (arith, ap one t))) (true_or_false (q n)))
    (lt_or_le i (count_below q n))

pub select_at : {A : Type 0} {q : ℕ → Bool} {n i v : ℕ} (h : ℕ → A) (d : A) → Member q n i v → get_or (select q h n) i d ≡ h v
select_at {q = q} {n = n} {v = v} h d m = ap (λ (k : ℕ). get_or (select q h n) k d) (sym m.place) ∙ get_or_select q h n v d m.low m.on

module _ (q : ℕ → Bool) (n : ℕ) {l : List ℕ} (e : l ≡ select q (λ v. v) n) where
  pub members_count : length l ≡ count_below q n
  members_count = ap length e ∙ length-select q (λ v. v) n

  pub member : {i v : ℕ} → i < length l → v ≡ get_or l i 0 → Member q n i v
  member {i} {v} h is =
      let r = some_member q n i (omega (arith, members_count)) in
      subst (Member q n i) (sym (is ∙ ap (λ (m : List ℕ). get_or m i 0) e ∙ select_at (λ u. u) 0 r.1)) r.1

  -- what it gives of each of them
  pub members_map : (h : ℕ → ℕ) → map h l ≡ select q h n
  members_map h = ap (map h) e ∙ map-select h q (λ v. v) n
