-- The registers that wait are traced along their wires, each once. Assumes nothing.
use Rattle.std.specs.Prelude.{◌≡◌, refl, ◌⊎◌, Bool, true, false, List, ℕ, zero, suc, ◌+◌, ◌-◌, ◌*◌, ◌≤◌, ◌<◌, length, get_or, set, take}
use Rattle.std.proofs.Common.{sym, ap, subst, ◌∙◌, ⊎_elim, inl, inr, zero-le, arith, get_or-set_same, get_or-set_other, below_more}
use Rattle.std.proofs.Math.Decide.{ℕ_discrete}
use Rattle.std.proofs.lemmas.List.{take-set-le}
use Rattle.lists.specs.Lists.{one}
use Rattle.lists.proofs.BelowLaws.{true_or_false}
use Rattle.lists.proofs.Sections.{section-length, section-read, section-put, section_before, section-after}
use Rattle.netlist.specs.Net.{Net, size, element_at, source, is_register, Sourced}
use Rattle.retiming.specs.Rewrite.{passed_in, root, passed}
use Rattle.retiming.proofs.Wires.{behind, ringless_rooted, wire_next, wire_none}
use Rattle.wires.specs.Traced.{roots_in, passes_in, Ringless, Traced, Waits, HalfTraced, MoreTraced}

-- a wire passes no more registers than there are nodes
passed_in_few : (N : Net) (k s : ℕ) → passed_in N k s ≤ k
unfolding passed_in
passed_in_few N zero s = zero-le
passed_in_few N (suc k) s = ⊎_elim (λ t. rw t (omega (arith, passed_in_few N k (source N s 0)))) (λ t. rw t zero-le) (true_or_false (is_register (element_at N s)))

pub passed_few : (N : Net) (s : ℕ) → passed N s ≤ size N
unfolding passed
passed_few N s = passed_in_few N (size N) s

-- ---- back along a wire

-- k registers back from v comes u
pub record Back (N : Net) (v u k : ℕ) : Type 0 where
  pub inside : u < size N
  pub same_root : root N v ≡ root N u
  pub more : passed N v ≡ k + passed N u

pub back_more : {N : Net} {v u s k : ℕ} → Back N v u k → Back N u s 1 → Back N v s (k + 1)
back_more a b = record { inside = b.inside; same_root = a.same_root ∙ b.same_root; more = omega (arith, a.more, b.more) }

-- node v of two lists is written
pub record Written (roots passes more through : List ℕ) (v x y : ℕ) : Type 0 where
  pub roots_are : more ≡ set roots v x
  pub passes_are : through ≡ set passes v y
  pub root_room : v < length roots
  pub pass_room : v < length passes

-- a word that is read of the timing area is one of node u
module _ (l : List ℕ) (u : ℕ) {n x : ℕ} (h : u < n) (few : n ≤ 1024) where
  pub root_at : x ≡ get_or l (1024 + u) 0 → x ≡ get_or (roots_in l) u 0
  root_at e = e ∙ sym (section-read 1024 1024 l u (omega (arith, h, few)))

  pub pass_at : x ≡ get_or l (2048 + u) 0 → x ≡ get_or (passes_in l) u 0
  pass_at e = e ∙ sym (section-read 2048 1024 l u (omega (arith, h, few)))

-- both words of node v are put into the timing area; its leads stay
module _ (l m k : List ℕ) (v x y : ℕ) (h : v < 1024) (n : length l ≡ 3072) (a : m ≡ set l (1024 + v) x) (b : k ≡ set m (2048 + v) y) where
  pub both_put : Written (roots_in l) (passes_in l) (roots_in k) (passes_in k) v x y
  both_put = record {
    roots_are = ap (λ (w : List ℕ). roots_in w) b ∙ section-after 1024 1024 m (2048 + v) y (omega arith) ∙ ap (λ (w : List ℕ). roots_in w) a ∙ section-put 1024 1024 l v x h;
    passes_are = ap (λ (w : List ℕ). passes_in w) b ∙ section-put 2048 1024 m v y h
        ∙ ap (λ (w : List ℕ). set (passes_in w) v y) a ∙ ap (λ (w : List ℕ). set w v y) (section_before 2048 1024 l (1024 + v) x (omega arith));
    root_room = omega (arith, h, section-length 1024 1024 l (omega (arith, n)));
    pass_room = omega (arith, h, section-length 2048 1024 l (omega (arith, n)));
  }

  pub leads_stay : take 1024 k ≡ take 1024 l
  leads_stay = ap (take 1024) b ∙ take-set-le 1024 m (2048 + v) y (omega arith) ∙ ap (take 1024) a ∙ take-set-le 1024 l (1024 + v) x (omega arith)

module _ (N : Net) where
  -- from a register to its source
  back_one : Sourced N → Ringless N → {u s : ℕ} → u < size N → is_register (element_at N u) ≡ true → s ≡ source N u 0 → Back N u s 1
  back_one sourced none {u} {s} h r is = told (wire_next N (ringless_rooted N sourced none) u h r)
    where
      told : (root N u ≡ root N (source N u 0)) × (passed N u ≡ suc (passed N (source N u 0))) → Back N u s 1
      told (p, q) = record {
        inside = subst (λ (v : ℕ). v < size N) (sym is) (behind N sourced u h r);
        same_root = p ∙ ap (root N) (sym is);
        more = let f = ap (passed N) is in omega arith;
      }

  -- ---- a node of lists where each is traced or waits, told by its mark

  module _ {roots passes : List ℕ} {u : ℕ} (t : HalfTraced N roots passes (size N)) (h : u < size N) where
    pub traced_already : (get_or passes u 0 ≡ 65535 → ⊥) → Traced N roots passes u
    traced_already d = ⊎_elim (λ a. a) (λ a. absurd (d a.mark)) (t.each u h)

    -- a node with the mark is a register
    pub back_waiting : Sourced N → Ringless N → size N ≤ 1024 → {s : ℕ} → get_or passes u 0 ≡ 65535 → s ≡ source N u 0 → Back N u s 1
    back_waiting sourced none few m e = back_one sourced none h (⊎_elim (λ a. absurd (omega (arith, a.through, passed_few N u))) (λ a. a.register) (t.each u h)) e

  -- the same by the word of node u in the timing area
  module _ (l : List ℕ) {u : ℕ} (t : HalfTraced N (roots_in l) (passes_in l) (size N)) (h : u < size N) (few : size N ≤ 1024) where
    pub traced_at : (get_or l (2048 + u) 0 ≡ 65535 → ⊥) → Traced N (roots_in l) (passes_in l) u
    traced_at d = traced_already t h (λ e. d (pass_at l u h few refl ∙ e))

    pub back_at : Sourced N → Ringless N → {s : ℕ} → get_or l (2048 + u) 0 ≡ 65535 → s ≡ source N u 0 → Back N u s 1
    back_at sourced none m e = back_waiting t h sourced none few (sym (pass_at l u h few refl) ∙ m) e

  pub half_less : {roots passes : List ℕ} {n m : ℕ} → HalfTraced N roots passes n → m ≤ n → HalfTraced N roots passes m
  half_less t l = record { each = λ s h. t.each s (omega arith) }

  pub half_none : {roots passes : List ℕ} → HalfTraced N roots passes 0
  half_none = record { each = λ s l. absurd (omega arith) }

  -- ---- node v is written

  module _ {roots passes more through : List ℕ} {v x y : ℕ} (w : Written roots passes more through v x y) where
    root-written : get_or more v 0 ≡ x
    root-written = ap (λ (l : List ℕ). get_or l v 0) w.roots_are ∙ get_or-set_same roots v x 0 w.root_room

    passes_written : get_or through v 0 ≡ y
    passes_written = ap (λ (l : List ℕ). get_or l v 0) w.passes_are ∙ get_or-set_same passes v y 0 w.pass_room

    passes_other : (s : ℕ) → (s ≡ v → ⊥) → get_or through s 0 ≡ get_or passes s 0
    passes_other s d = ap (λ (l : List ℕ). get_or l s 0) w.passes_are ∙ get_or-set_other passes v s y 0 d

    traced_other : (s : ℕ) → (s ≡ v → ⊥) → Traced N roots passes s → Traced N more through s
    traced_other s d t = record {
      from = ap (λ (l : List ℕ). get_or l s 0) w.roots_are ∙ get_or-set_other roots v s x 0 d ∙ t.from;
      through = passes_other s d ∙ t.through;
    }

    waits_other : (s : ℕ) → (s ≡ v → ⊥) → Waits N passes s → Waits N through s
    waits_other s d t = record { mark = passes_other s d ∙ t.mark; register = t.register }

    -- half traced as before, but for node v
    half_written : {n m : ℕ} → HalfTraced N roots passes n → ((s : ℕ) → s < m → (s ≡ v → ⊥) → s < n) → Traced N more through v ⊎ Waits N through v → HalfTraced N more through m
    half_written {n} {m} t before now = record {
      each = λ s l. elim (ℕ_discrete s v) [
        | yes d ↦ subst (λ (u : ℕ). Traced N more through u ⊎ Waits N through u) (sym d) now
        | no d ↦ ⊎_elim (λ k. inl (traced_other s d k)) (λ k. inr (waits_other s d k)) (t.each s (before s l d))
      ];
    }

    -- marked: its own root, and it waits where it is a register
    pub marked_more : x ≡ v → y ≡ 65535 * one (is_register (element_at N v)) → HalfTraced N roots passes v → HalfTraced N more through (v + 1)
    marked_more e f t = half_written t (λ s l d. omega (arith, d)) (⊎_elim (λ r. inr (waiting r)) (λ r. inl (own r)) (true_or_false (is_register (element_at N v))))
      where
        marked : (b : Bool) → is_register (element_at N v) ≡ b → get_or through v 0 ≡ 65535 * one b
        marked b r = passes_written ∙ f ∙ ap (λ (k : Bool). 65535 * one k) r

        waiting : is_register (element_at N v) ≡ true → Waits N through v
        waiting r = record { mark = marked true r; register = r }

        own : is_register (element_at N v) ≡ false → Traced N more through v
        own r = record { from = root-written ∙ e ∙ sym (wire_none N v r).0; through = marked false r ∙ sym (wire_none N v r).1 }

    -- traced
    module _ (e : x ≡ root N v) (f : y ≡ passed N v) where
      traced_now : Traced N more through v
      traced_now = record { from = root-written ∙ e; through = passes_written ∙ f }

      pub half_more : {n : ℕ} → HalfTraced N roots passes n → HalfTraced N more through n
      half_more t = half_written t (λ s l d. l) (inl traced_now)

      pub traced_more : MoreTraced N roots passes more through v
      traced_more = record {
        here = traced_now;
        still = λ s t. elim (ℕ_discrete s v) [
          | yes d ↦ subst (Traced N more through) (sym d) traced_now
          | no d ↦ traced_other s d t
        ];
      }

-- ---- from v back to u all is traced; the wire of u has its root and passes as many registers as are left

pub record Setting (N : Net) (roots passes more through : List ℕ) (v u root_is left : ℕ) : Type 0 where
  pub half : HalfTraced N more through (size N)
  pub still : (s : ℕ) → Traced N roots passes s → Traced N more through s
  pub begun : (u ≡ v) ⊎ Traced N more through v
  pub inside : u < size N
  pub its_root : root_is ≡ root N u
  pub its_passes : left ≡ passed N u

module _ (N : Net) where
  pub setting_none : {roots passes : List ℕ} {v x y : ℕ} → HalfTraced N roots passes (size N) → v < size N → x ≡ root N v → y ≡ passed N v → Setting N roots passes roots passes v v x y
  setting_none t h e f = record { half = t; still = λ s a. a; begun = inl refl; inside = h; its_root = e; its_passes = f }

  module _ {roots passes more through : List ℕ} {v u x y : ℕ} (t : Setting N roots passes more through v u x y) where
    -- u, which waits, is traced
    pub setting_more : {more' through' : List ℕ} {s left : ℕ} → Written more through more' through' u x y → Back N u s 1 → left ≡ y - 1 → Setting N roots passes more' through' v s x left
    setting_more {more'} {through'} w b e = record {
      half = half_more N w t.its_root t.its_passes t.half;
      still = λ s a. now.still s (t.still s a);
      begun = inr (⊎_elim (λ d. subst (Traced N more' through') d now.here) (λ a. now.still v a) t.begun);
      inside = b.inside;
      its_root = t.its_root ∙ b.same_root;
      its_passes = omega (arith, e, b.more, t.its_passes);
    }
      where
        now : MoreTraced N more through more' through' u
        now = traced_more N w t.its_root t.its_passes

    -- u is traced already
    pub setting_done : Traced N more through u → MoreTraced N roots passes more through v
    setting_done last = record {
      here = ⊎_elim (λ e. subst (Traced N more through) e last) (λ a. a) t.begun;
      still = t.still;
    }

-- ---- the first i nodes are traced, the others half

pub record TracedTo (N : Net) (roots passes : List ℕ) (i : ℕ) : Type 0 where
  pub half : HalfTraced N roots passes (size N)
  pub done : (s : ℕ) → s < i → Traced N roots passes s

pub traced_none : {N : Net} {roots passes : List ℕ} → HalfTraced N roots passes (size N) → TracedTo N roots passes 0
traced_none t = record { half = t; done = λ s l. absurd (omega arith) }

pub traced_next : {N : Net} {roots passes more through : List ℕ} {i : ℕ} → TracedTo N roots passes i → HalfTraced N more through (size N) → MoreTraced N roots passes more through i → TracedTo N more through (i + 1)
traced_next {N} {more = more} {through} {i} t h m = record { half = h; done = below_more (Traced N more through) i (λ s l. m.still s (t.done s l)) m.here }
