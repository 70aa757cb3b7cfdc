-- The registers of a rewritten netlist are counted at their sources, in the order in which they stand. Assumes nothing.
use Rattle.std.specs.Prelude.{◌≡◌, Bool, length, set, replicate}
use Rattle.std.proofs.Math.Path.{refl, ap}
use Rattle.std.proofs.Common.{sym, ap₂, ◌∙◌, ⊎_elim, add-one, arith, length-set, ext_get_or, drop_at, ne_eqb}
use Rattle.std.proofs.Math.Bool.{◌&&◌}
use mathlib.Core.List.{List, ◌∷◌, ◌++◌, map}
use Prim.Native.Nat.{ℕ, zero, suc, ◌+◌, ◌-◌, ◌*◌, ◌≤◌, ◌<◌}
use Rattle.std.proofs.Math.Decide.{ℕ_discrete}
use Rattle.std.proofs.Math.ListN.{get_or, drop}
use Rattle.std.proofs.lemmas.List.{length-replicate, get_or-replicate}
use Rattle.std.proofs.Math.Seq.{get_or-set_same, get_or-set_other}
use Rattle.std.proofs.Math.Dec.{eqb}
use Rattle.lists.specs.Lists.{below, one, count_below}
use Rattle.lists.proofs.BelowLaws.{eqb_self, length_listed, get_or_listed, count_below-le}
use Rattle.words.specs.Words.{word, put_word}
use Rattle.netlist.specs.Net.{Net, size, element_at, source, is_register}
use Rattle.behaviour.specs.Service.{bytes_of}
use Rattle.behaviour.proofs.WordBytes.{word_front, put_front}
use Rattle.retiming.specs.Rewrite.{root}
use Rattle.retiming.specs.BySource.{on_wire_from, registers_from}
use Rattle.retiming.specs.RegistersLast.{RegistersLast}
use Rattle.retiming.proofs.RegistersLast.{source_list}
use Rattle.retiming.specs.Preview.{source_bytes}

-- ---- bytes set to 0

-- the first k numbers are 0
abbrev pub Zeroed : List ℕ → ℕ → Type 0
Zeroed l k = l ≡ replicate (2 * k) 0 ++ drop (2 * k) l

pub zeroed : (l m : List ℕ) (k : ℕ) → m ≡ replicate (2 * k) 0 ++ drop (2 * k) l → Zeroed m k × (drop (2 * k) m ≡ drop (2 * k) l)
zeroed l m k e =
    let same = ap (drop (2 * k)) e ∙ drop_at (replicate (2 * k) 0) (drop (2 * k) l) (2 * k) (length-replicate (2 * k) 0) in
    (e ∙ ap (λ (r : List ℕ). replicate (2 * k) 0 ++ r) (sym same), same)

zero-bytes : (k : ℕ) → bytes_of (replicate k 0) ≡ replicate (2 * k) 0
zero-bytes zero = refl
zero-bytes (suc k) =
    let n : suc (suc (2 * k)) ≡ 2 * suc k = omega arith in
    ap (λ (r : List ℕ). 0 ∷ 0 ∷ r) (zero-bytes k) ∙ ap (λ (j : ℕ). replicate j 0) n

-- ---- where a register comes from

-- where the register before v, if there is one, comes from
abbrev pub Follows : Net → ℕ → ℕ → ℕ → Type 0
Follows M k v u = k < v → (u ≡ root M (v - 1)) × (u < k)

module _ {M : Net} {k v : ℕ} (u : ℕ) (last : RegistersLast M k) (low : k ≤ v) (inside : v < size M) (f : Follows M k v u) where
  -- a register that reads a node which is none comes from there
  pub from_other : {s : ℕ} → s ≡ source M v 0 → s < k → (s ≡ root M v) × (s < k)
  from_other e h = ⊎_elim (λ (l, r). (e ∙ sym r, h)) (λ (l, n, r). absurd (omega (arith, e))) (last.behind v low inside)

  -- one that reads a register comes from where that one does
  pub from_register : {s : ℕ} → s ≡ source M v 0 → k ≤ s → (u ≡ root M v) × (u < k)
  from_register e h =
      ⊎_elim (λ (l, r). absurd (omega (arith, e)))
      (λ (l, n, r).
      let before = f (omega arith) in
      let p : v - 1 ≡ source M v 0 = omega arith in
      (before.0 ∙ ap (root M) p ∙ sym r, before.1)) (last.behind v low inside)

-- ---- the numbers, when the registers below v are counted

module _ (M : Net) (k : ℕ) where
  unfoldable pub numbers : ℕ → List ℕ
  numbers v = map (λ u. count_below (on_wire_from M u) v) (below k)

  length-numbers : (v : ℕ) → length (numbers v) ≡ k
  unfolding numbers
  length-numbers v = length_listed (λ u. count_below (on_wire_from M u) v) k

  number_at : (v u : ℕ) → u < k → get_or (numbers v) u 0 ≡ count_below (on_wire_from M u) v
  unfolding numbers
  number_at v u h = get_or_listed (λ w. count_below (on_wire_from M w) v) k u 0 h

  pub record Counting (before after : List ℕ) (v u : ℕ) : Type 0 where
    pub low : k ≤ v
    pub holds : after ≡ bytes_of (numbers v) ++ drop (2 * k) before
    pub follows : Follows M k v u

  module _ (last : RegistersLast M k) where
    -- none is a register that stands before the first
    none_before : (v u : ℕ) → v ≤ k → count_below (on_wire_from M u) v ≡ 0
    unfolding on_wire_from
    none_before zero u h = refl
    none_before (suc v) u h = omega (arith, none_before v u (omega arith), ap (λ (b : Bool). one (b && eqb (root M v) u)) (last.others v h))

    numbers_none : numbers k ≡ replicate k 0
    numbers_none =
        ext_get_or 0 (numbers k) (replicate k 0) (length-numbers k ∙ sym (length-replicate k 0))
        (λ u l. let h : u < k = omega (arith, length-numbers k) in number_at k u h ∙ none_before k u (omega arith) ∙ sym (get_or-replicate k u 0 0 h))

    pub counting_none : {l : List ℕ} → Zeroed l k → Counting l l k 0
    counting_none {l} z = record {
      low = omega arith;
      holds = z ∙ ap (λ (r : List ℕ). r ++ drop (2 * k) l) (sym (zero-bytes k) ∙ ap bytes_of (sym numbers_none));
      follows = λ h. absurd (omega arith);
    }

    -- all are counted
    pub counting_all : {before after : List ℕ} {v u : ℕ} → Counting before after v u → v ≡ size M → after ≡ source_bytes M ++ drop (2 * k) before
    unfolding source_bytes numbers registers_from
    counting_all {before} c e =
        c.holds ∙ ap (λ (n : ℕ). bytes_of (numbers n) ++ drop (2 * k) before) e ∙ ap (λ (ws : List ℕ). bytes_of ws ++ drop (2 * k) before) (sym (source_list last))

    -- register v, which comes from u, is counted
    module _ {before after : List ℕ} {v w u : ℕ} (c : Counting before after v w) (inside : v < size M) (is : u ≡ root M v) (low : u < k) where
      one_more : (r : ℕ) → r < k → count_below (on_wire_from M r) (v + 1) ≡ get_or (set (numbers v) u (get_or (numbers v) u 0 + 1)) r 0
      unfolding on_wire_from
      one_more r h = elim (ℕ_discrete r u) [
        | yes d ↦
            let on : one (is_register (element_at M v) && eqb (root M v) r) ≡ 1 = ap one (ap₂ ◌&&◌ (last.registers v c.low inside) (ap₂ eqb (sym is) d ∙ eqb_self u)) in
            let there = get_or-set_same (numbers v) u (get_or (numbers v) u 0 + 1) 0 (omega (arith, length-numbers v)) in
            ap (λ (n : ℕ). count_below (on_wire_from M r) n) (add-one v) ∙ omega (arith, number_at v r h, ap (λ (n : ℕ). get_or (numbers v) n 0) d, ap (λ (n : ℕ). get_or (set (numbers v) u (get_or (numbers v) u 0 + 1)) n 0) d)
        | no d ↦
            let off : one (is_register (element_at M v) && eqb (root M v) r) ≡ 0 = ap one (ap₂ ◌&&◌ (last.registers v c.low inside) (ne_eqb (root M v) r (λ e. d (sym (is ∙ e))))) in
            ap (λ (n : ℕ). count_below (on_wire_from M r) n) (add-one v) ∙ omega (arith, number_at v r h, get_or-set_other (numbers v) u r (get_or (numbers v) u 0 + 1) 0 d)
      ]

      numbers_next : numbers (v + 1) ≡ set (numbers v) u (get_or (numbers v) u 0 + 1)
      numbers_next =
          ext_get_or 0 (numbers (v + 1)) (set (numbers v) u (get_or (numbers v) u 0 + 1)) (length-numbers (v + 1) ∙ sym (length-set (numbers v) u (get_or (numbers v) u 0 + 1) ∙ length-numbers v))
          (λ r l. let h : r < k = omega (arith, length-numbers (v + 1)) in number_at (v + 1) r h ∙ one_more r h)

      -- the number that is read
      pub number_read : word after (2 * u) ≡ get_or (numbers v) u 0
      number_read = ap (λ (l : List ℕ). word l (2 * u)) c.holds ∙ word_front (drop (2 * k) before) (numbers v) u (omega (arith, length-numbers v))

      pub number_small : word after (2 * u) ≤ v
      number_small = omega (arith, number_read, number_at v u low, count_below-le (on_wire_from M u) v)

      pub counting_more : {next : List ℕ} → next ≡ put_word after (2 * u) (word after (2 * u) + 1) → Counting before next (v + 1) u
      counting_more {next} e = record {
        low = omega (arith, c.low);
        holds =
            e ∙ ap (λ (x : ℕ). put_word after (2 * u) (x + 1)) number_read
            ∙ ap (λ (l : List ℕ). put_word l (2 * u) (get_or (numbers v) u 0 + 1)) c.holds
            ∙ put_front (drop (2 * k) before) (numbers v) u (get_or (numbers v) u 0 + 1) (omega (arith, length-numbers v))
            ∙ ap (λ (ws : List ℕ). bytes_of ws ++ drop (2 * k) before) (sym numbers_next);
        follows = λ h. (is ∙ ap (root M) (let n : v ≡ v + 1 - 1 = omega arith in n), low);
      }
