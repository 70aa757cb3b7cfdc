-- Lists of words that fit a list of widths, one each; and lists of words, one for each node that passes a test. Assumes nothing.
use Rattle.std.specs.Prelude.{◌≡◌, refl, Bool, true, false, List, [], ◌∷◌, ◌++◌, ℕ, zero, suc, ◌+◌, ◌^◌, ◌≤◌, ◌<◌, length, get_or, eqb, ltb}
use Rattle.std.proofs.Common.{sym, ap, ◌∙◌, subst, not-suc-le-zero, le_of_suc-le-suc, arith, ltb→lt, lt→ltb}
use Rattle.lists.specs.Lists.{count_below, all_below, select, only, up_from, below, concat_map}
use Rattle.lists.proofs.BelowLaws.{T→true, true→T, and_left, and_right, eqb-true, eqb_self, all_below_intro, all_below_elim, count_below-lt}
use Rattle.lists.proofs.ListsLaws.{get_or_select, length-select}
use Rattle.behaviour.specs.Runs.{fitting}

-- one fitting word per width, part by part
abbrev Each : List ℕ → List ℕ → Type 0
Each [] [] = Unit {0}
Each [] (d ∷ ds) = ⊥
Each (w ∷ ws) [] = ⊥
Each (w ∷ ws) (d ∷ ds) = (d < 2 ^ w) × Each ws ds

each_append : (ws ds vs es : List ℕ) → Each ws ds → Each vs es → Each (ws ++ vs) (ds ++ es)
each_append [] [] vs es a b = b
each_append [] (d ∷ ds) vs es a b = absurd a
each_append (w ∷ ws) [] vs es a b = absurd a
each_append (w ∷ ws) (d ∷ ds) vs es a b = (a.0, each_append ws ds vs es a.1 b)

each_up_from : (f g : ℕ → List ℕ) (i k n : ℕ) → i + k ≤ n → ((v : ℕ) → v < n → Each (f v) (g v)) → Each (concat_map f (up_from i k)) (concat_map g (up_from i k))
each_up_from f g i zero n l h = tt
each_up_from f g i (suc k) n l h = each_append (f i) (g i) (concat_map f (up_from (suc i) k)) (concat_map g (up_from (suc i) k)) (h i (omega arith)) (each_up_from f g (suc i) k n (omega arith) h)

each_below : (f g : ℕ → List ℕ) (n : ℕ) → ((v : ℕ) → v < n → Each (f v) (g v)) → Each (concat_map f (below n)) (concat_map g (below n))
each_below f g n h = each_up_from f g 0 n n (omega arith) h

each_only : (b : Bool) (w d : ℕ) → (b ≡ true → d < 2 ^ w) → Each (only b w) (only b d)
each_only true w d h = (h refl, tt)
each_only false w d h = tt

each_length : (ws ds : List ℕ) → Each ws ds → length ds ≡ length ws
each_length [] [] a = refl
each_length [] (d ∷ ds) a = absurd a
each_length (w ∷ ws) [] a = absurd a
each_length (w ∷ ws) (d ∷ ds) a = ap suc (each_length ws ds a.1)

each_at : (ws ds : List ℕ) → Each ws ds → (i : ℕ) → i < length ws → get_or ds i 0 < 2 ^ get_or ws i 0
each_at [] [] a i l = absurd (not-suc-le-zero l)
each_at [] (d ∷ ds) a i l = absurd a
each_at (w ∷ ws) [] a i l = absurd a
each_at (w ∷ ws) (d ∷ ds) a zero l = a.0
each_at (w ∷ ws) (d ∷ ds) a (suc i) l = each_at ws ds a.1 i (le_of_suc-le-suc l)

fitting_intro : (ws ds : List ℕ) → length ds ≡ length ws → ((i : ℕ) → i < length ws → get_or ds i 0 < 2 ^ get_or ws i 0) → fitting ws ds ≡ true
unfolding fitting
fitting_intro ws ds e h =
    let k : eqb (length ds) (length ws) ≡ true = ap (eqb (length ds)) (sym e) ∙ eqb_self (length ds) in
    rw k (all_below_intro (length ws) (λ i. ltb (get_or ds i 0) (2 ^ get_or ws i 0)) (λ i l. T→true (lt→ltb (get_or ds i 0) (2 ^ get_or ws i 0) (h i l))))

pub fitting-length : (ws ds : List ℕ) → fitting ws ds ≡ true → length ds ≡ length ws
unfolding fitting
fitting-length ws ds e = eqb-true (and_left (eqb (length ds) (length ws)) _ e)

pub fitting_elim : (ws ds : List ℕ) → fitting ws ds ≡ true → (i : ℕ) → i < length ws → get_or ds i 0 < 2 ^ get_or ws i 0
unfolding fitting
fitting_elim ws ds e i l =
    let a = eqb (length ds) (length ws) in
    let b = all_below (length ws) (λ j. ltb (get_or ds j 0) (2 ^ get_or ws j 0)) in
    ltb→lt (get_or ds i 0) (2 ^ get_or ws i 0) (true→T (all_below_elim (length ws) (λ j. ltb (get_or ds j 0) (2 ^ get_or ws j 0)) (and_right a b e) i l))

-- ---- a word for each node that passes a test

module _ (q : ℕ → Bool) (w : ℕ → ℕ) (n : ℕ) where
  pub fitting-select : (h : ℕ → ℕ) → ((v : ℕ) → v < n → q v ≡ true → h v < 2 ^ w v) → fitting (select q w n) (select q h n) ≡ true
  fitting-select h k =
      let all : Each (select q w n) (select q h n) = each_below (λ v. only (q v) (w v)) (λ v. only (q v) (h v)) n (λ v l. each_only (q v) (w v) (h v) (k v l)) in
      fitting_intro (select q w n) (select q h n) (each_length (select q w n) (select q h n) all) (each_at (select q w n) (select q h n) all)

  pub fitting_at : (ds : List ℕ) → fitting (select q w n) ds ≡ true → (v : ℕ) → v < n → q v ≡ true → get_or ds (count_below q v) 0 < 2 ^ w v
  fitting_at ds t v h e =
      subst (λ (k : ℕ). get_or ds (count_below q v) 0 < 2 ^ k) (get_or_select q w n v 0 h e)
      (fitting_elim (select q w n) ds t (count_below q v) (rw (length-select q w n) (count_below-lt q v n e h)))
