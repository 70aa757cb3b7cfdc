-- The rewritten netlist's sources are its nodes, and it has a rank: leads first, old ranks within a lead; the gates of a wire come before its reader. Assumes nothing.
use Rattle.std.specs.Prelude.{◌≡◌, ◌⊎◌, false, cond, length}
use Rattle.std.proofs.Math.Path.{refl, ap, subst}
use Rattle.std.proofs.Common.{sym, ◌∙◌, inl, inr, not-suc-le-zero, mul-le-mul_right}
use Rattle.std.proofs.Math.Logic.{⊎_elim}
use Prim.Native.Nat.{ℕ, zero, suc, ◌+◌, ◌-◌, ◌*◌, ◌≤◌, ◌<◌, zero-le, suc-le-suc}
use native.Mathlib.Omega.{arith}
use Rattle.std.proofs.Math.ListN.{get_or}
use Rattle.netlist.specs.declared.Node.{Node}
use Rattle.lists.proofs.BelowLaws.{true_or_false, lt_or_le, one_le}
use Rattle.netlist.specs.Net.{Net, size, node_at, element_at, source, operands, within_clock, Class, in_clock, is_register, is_clocked, Sourced, Ranked, RankedIn}
use Rattle.netlist.specs.Reach.{Reads}
use Rattle.retiming.specs.Rewrite.{Timing, old_on, Place, Entry, Reg, passed_in, root, passed, own_here, memory_at, count_on, new_table, along}
use Rattle.retiming.specs.Gates.{Spot, Old, One, Chain, Shown, Pick, first_on, last_on, shown_on, chain_length, spots, spot_number, picked, chained, spot_node, gated_with}
use Rattle.netlist.specs.Rank.{Settles, rounds}
use Rattle.netlist.proofs.Rank.{rounds_ranked, rounds_small, ranked_settles}
use Rattle.retiming.proofs.Wires.{root_within, none_passed}
use Rattle.retiming.specs.Layout.{Stands}
use Rattle.retiming.proofs.LayoutLaws.{along_reg, along-end, along_sound}
use Rattle.retiming.specs.GatesLayout.{no_spot, spot_at, SpotSound, SpotNumbered}
use Rattle.retiming.proofs.GatesLayout.{spots_sound, spot-numbered, picked-gate, picked_wire, picked_sound, shown_range, chained_sound, chain_long}
use Rattle.retiming.specs.Candidate.{Retimes, sources}
use Rattle.retiming.proofs.Candidate.{size-new, node_new, node_numbered, source-new, used_new, count_other, within_new}

lexicographic : (a b k r s : ℕ) → a < b → r < k → a * k + r < b * k + s
lexicographic a b k r s h l = omega (arith, mul-le-mul_right k h)

passed-le : (N : Net) (k s : ℕ) → passed_in N k s ≤ k
unfolding passed_in
passed-le N zero s = zero-le
passed-le N (suc k) s = ⊎_elim (λ t. rw t (suc-le-suc (passed-le N k (source N s 0)))) (λ t. rw t zero-le) (true_or_false (is_register (element_at N s)))

pub passed_at_most : (N : Net) (s : ℕ) → passed N s ≤ size N
unfolding passed
passed_at_most N s = passed-le N (size N) s

module _ (N : Net) (f : Timing) (Z : ℕ → ℕ → ℕ) (ok : Retimes N f) where
  -- the register of the chain that steers a gate is there
  pub steer_sound : (x c p k : ℕ) → Stands N f Z x c → p < operands (element_at N x) → k < shown_on N f Z x p → first_on N f Z x + k < chain_length N f Z
  steer_sound x c p k s q l = chain_long N f Z ok.sourced ok.rooted ok.serves x c p s q k l

  -- the sources of a spot are numbers of sound spots
  pub record From (sp : Spot) (p : ℕ) : Type 0 where
    pub spot : Spot
    pub sound : SpotSound N f Z spot
    pub number : get_or (spot_node N f Z sp).sources p 0 ≡ spot_number N f Z spot

  unfoldable pub from : (sp : Spot) → SpotSound N f Z sp → (p : ℕ) → p < operands (spot_node N f Z sp).element → From sp p
  unfolding spot_node sources spot_number
  from (Old (Entry u c)) s p q = record { spot = picked N f Z u c p 0; sound = picked_sound N f Z ok.sourced ok.rooted ok.serves u c p s (used_new N f Z u c p q) 0; number = source-new N f Z u c p q }
  from (Old (Reg x c p j)) (s, q, l) zero k = record { spot = Old (along N f Z x c p (suc j)); sound = along_sound N f Z ok.sourced ok.rooted ok.serves x c p s q (suc j); number = refl }
  from (Old (Reg x c p j)) (s, q, l) (suc r) k = absurd (omega arith)
  from One s p k = absurd (not-suc-le-zero k)
  from (Chain i) l zero k = record { spot = chained N f Z i; sound = chained_sound N f Z i l; number = refl }
  from (Chain i) l (suc r) k = absurd (omega arith)
  from (Shown x c p k) s r l = absurd (not-suc-le-zero l)
  from (Pick x c p k) (s, q, l) zero h = record { spot = Chain (first_on N f Z x + k); sound = steer_sound x c p k s q l; number = refl }
  from (Pick x c p k) (s, q, l) (suc zero) h = record { spot = picked N f Z x c p (suc k); sound = picked_sound N f Z ok.sourced ok.rooted ok.serves x c p s q (suc k); number = refl }
  from (Pick x c p k) (s, q, l) (suc (suc zero)) h = record { spot = Shown x c p k; sound = (s, q, l); number = refl }
  from (Pick x c p k) (s, q, l) (suc (suc (suc r))) h = absurd (omega arith)

  -- a spot whose source is another's number reads it
  unfoldable pub place_reads : (sp : Spot) → SpotSound N f Z sp → (p : ℕ) → p < operands (spot_node N f Z sp).element → (to : Spot) → get_or (spot_node N f Z sp).sources p 0 ≡ spot_number N f Z to → Reads (gated_with N f Z) (spot_number N f Z sp) (spot_number N f Z to)
  unfolding element_at source
  place_reads sp s p q to e =
      let n : SpotNumbered N f Z sp = spot-numbered N f Z sp s in
      let k : node_at (gated_with N f Z) (spot_number N f Z sp) ≡ spot_node N f Z sp = node_numbered N f Z sp s in
      record {
        operand = p;
        inside = subst (λ (m : ℕ). spot_number N f Z sp < m) (sym (size-new N f Z)) n.within;
        used = subst (λ (m : Node). p < operands m.element) (sym k) q;
        from = ap (λ (m : Node). get_or m.sources p 0) k ∙ e;
      }

  -- what holds of each node from each spot
  pub at_node : (P : ℕ → Spot → Node → Type 0) → ((i : ℕ) → i < length (spots N f Z) → SpotSound N f Z (get_or (spots N f Z) i no_spot) → P i (get_or (spots N f Z) i no_spot) (spot_node N f Z (get_or (spots N f Z) i no_spot)))
      → (i : ℕ) → i < size (gated_with N f Z) → P i (get_or (spots N f Z) i no_spot) (node_at (gated_with N f Z) i)
  at_node P h i l =
      let k : i < length (spots N f Z) = subst (λ (n : ℕ). i < n) (size-new N f Z) l in
      subst (P i (get_or (spots N f Z) i no_spot)) (sym (node_new N f Z i k)) (h i k (spots_sound N f Z i k))

  -- and of each step from each step between spots
  pub at_step : (P : Spot → ℕ → Node → Spot → Type 0)
      → ((sp : Spot) (s : SpotSound N f Z sp) (p : ℕ) (q : p < operands (spot_node N f Z sp).element) → P sp p (spot_node N f Z sp) (from sp s p q).spot)
      → {y a : ℕ} (r : Reads (gated_with N f Z) y a) → P (spot_at N f Z y) r.operand (node_at (gated_with N f Z) y) (spot_at N f Z a)
  unfolding element_at source
  at_step P h {y} {a} r =
      subst (λ (k : ℕ). P (spot_at N f Z y) r.operand (node_at (gated_with N f Z) y) (spot_at N f Z k)) r.from
      (at_node (λ i sp n. r.operand < operands n.element → P sp r.operand n (spot_at N f Z (get_or n.sources r.operand 0)))
      (λ i k s l. let g : From (spot_at N f Z i) r.operand = from (spot_at N f Z i) s r.operand l in
      rw g.number (rw (spot-numbered N f Z g.spot g.sound).at (h (spot_at N f Z i) s r.operand l))) y r.inside r.used)

  pub new_sourced : Sourced (gated_with N f Z)
  unfolding Sourced element_at source
  new_sourced i p h q =
      at_node (λ i sp n. p < operands n.element → get_or n.sources p 0 < size (gated_with N f Z))
      (λ i k s l. let r : From (get_or (spots N f Z) i no_spot) p = from (get_or (spots N f Z) i no_spot) s p l in
      rw r.number (subst (λ (n : ℕ). spot_number N f Z r.spot < n) (sym (size-new N f Z)) (spot-numbered N f Z r.spot r.sound).within)) i h q

  -- a rank of spots is a rank of the rewritten netlist
  pub placed_rank : (K : Class) (rank : Spot → ℕ)
      → ((sp : Spot) (p : ℕ) → p < K.of (spot_node N f Z sp).element → (q : p < operands (spot_node N f Z sp).element) (s : SpotSound N f Z sp) → rank (from sp s p q).spot < rank sp)
      → RankedIn K (gated_with N f Z) (λ i. rank (get_or (spots N f Z) i no_spot))
  unfolding RankedIn element_at
  placed_rank K rank falls i p h w =
      at_step (λ sp p n to. p < K.of n.element → rank to < rank sp) (λ sp s p q k. falls sp p k q s)
      (record { operand = p; inside = h; used = omega (arith, K.few (element_at (gated_with N f Z) i)); from = refl }) w

  -- ---- a rank

  base : ℕ → ℕ
  base u = f.lead u * size N + rounds in_clock N u

  -- more gates than a wire can have
  room : ℕ
  room = suc (suc (size N))

  place_rank : Place → ℕ
  place_rank (Entry u c) = cond (memory_at N u) 0 (suc (base u) * room)
  place_rank (Reg x c p j) = 0

  rank_of : Spot → ℕ
  rank_of (Old pl) = place_rank pl
  rank_of One = 0
  rank_of (Chain i) = 0
  rank_of (Shown x c p k) = 0
  rank_of (Pick x c p k) = base x * room + (shown_on N f Z x p - k)

  module _ (u c p : ℕ) (s : Stands N f Z u c) (q : p < operands (element_at N u)) where
    at_source : source N u p < size N
    unfolding Sourced
    at_source = ok.sourced u p s.inside q

    shown_less : shown_on N f Z u p < room
    unfolding old_on room last_on first_on own_here
    shown_less =
        ⊎_elim (λ l. omega (arith, shown_range N f Z u p l, passed_at_most N (source N u p), one_le (is_clocked (element_at N (root N (source N u p)))))) (λ l. omega arith) (lt_or_le 0 (shown_on N f Z u p))

    -- ranks fall to the wire's root, unless a register stands between: within a clock, or to a source that starts later
    root_falls : (p < within_clock (element_at N u)) ⊎ (0 < old_on N f Z u p) → count_on N f Z u p ≤ 0 → memory_at N (root N (source N u p)) ≡ false → base (root N (source N u p)) < base u
    unfolding base RankedIn
    root_falls w z r =
        ⊎_elim
        (λ (l : 0 < passed N (source N u p)). lexicographic (f.lead (root N (source N u p))) (f.lead u) (size N) (rounds in_clock N (root N (source N u p))) (rounds in_clock N u)
        (let less : f.lead (root N (source N u p)) < f.lead u = omega (arith, sums.0, l, z) in less)
        (rounds_small in_clock N ok.sourced ok.settles (root N (source N u p)) (root_within N ok.sourced (source N u p) at_source)))
        (λ (l : passed N (source N u p) ≤ 0). let none : passed N (source N u p) ≡ 0 = omega arith in
        let straight : root N (source N u p) ≡ source N u p = none_passed N (source N u p) at_source none in
        let same-lead : f.lead (root N (source N u p)) ≡ f.lead u = omega (arith, sums.0) in
        rw (same-lead, straight) (⊎_elim (λ v. omega (arith, rounds_ranked in_clock N ok.sourced ok.settles u p s.inside v)) (λ v. absurd (omega (arith, sums.1))) w))
        (lt_or_le 0 (passed N (source N u p)))
      where
        sums : (count_on N f Z u p + f.lead u ≡ passed N (source N u p) + f.lead (root N (source N u p))) × (old_on N f Z u p ≡ passed N (source N u p))
        sums = count_other N f Z ok u c p s q r

    along_falls : (p < within_clock (element_at N u)) ⊎ (0 < old_on N f Z u p) → place_rank (along N f Z u c p 0) ≤ base u * room
    unfolding place_rank
    along_falls w =
        ⊎_elim (λ l. rw (along_reg N f Z u c p 0 l) zero-le)
        (λ l. rw (along-end N f Z u c p 0 l) (⊎_elim (λ r. rw r zero-le) (λ r. rw r (mul-le-mul_right room (root_falls w l r))) (true_or_false (memory_at N (root N (source N u p))))))
        (lt_or_le 0 (count_on N f Z u p))

    -- from gate to gate, and from the last to the wire
    picked_falls : (k : ℕ) → k < shown_on N f Z u p → rank_of (picked N f Z u c p (suc k)) < base u * room + (shown_on N f Z u p - k)
    unfolding rank_of last_on first_on
    picked_falls k l =
        ⊎_elim (λ m. rw (picked-gate N f Z u c p (suc k) m) (omega arith))
        (λ m. rw (picked_wire N f Z u c p (suc k) m) (omega (arith, along_falls (inr (omega (arith, shown_range N f Z u p (omega arith)))))))
        (lt_or_le (suc k) (shown_on N f Z u p))

    operand_falls : p < within_clock (element_at N u) → rank_of (picked N f Z u c p 0) < suc (base u) * room
    unfolding rank_of
    operand_falls w =
        let product : suc (base u) * room ≡ base u * room + room = omega arith in
        ⊎_elim (λ m. rw (picked-gate N f Z u c p 0 m) (omega (arith, shown_less)))
        (λ m. rw (picked_wire N f Z u c p 0 m) (omega (arith, along_falls (inl w), shown_less)))
        (lt_or_le 0 (shown_on N f Z u p))

  spot_ranked : (sp : Spot) (p : ℕ) → p < within_clock (spot_node N f Z sp).element → (q : p < operands (spot_node N f Z sp).element) (s : SpotSound N f Z sp) → rank_of (from sp s p q).spot < rank_of sp
  unfolding spot_node rank_of place_rank from memory_at
  spot_ranked (Old (Entry u c)) p w q s = let k = within_new (element_at N u) (new_table N f Z u) c p w in rw k.0 (operand_falls u c p s (used_new N f Z u c p q) k.1)
  spot_ranked (Old (Reg x c p j)) r w q s = absurd (not-suc-le-zero w)
  spot_ranked One p w q s = absurd (not-suc-le-zero q)
  spot_ranked (Chain i) p w q s = absurd (not-suc-le-zero w)
  spot_ranked (Shown x c p k) r w q s = absurd (not-suc-le-zero q)
  spot_ranked (Pick x c p k) zero w h (s, q, l) = omega arith
  spot_ranked (Pick x c p k) (suc zero) w h (s, q, l) = picked_falls x c p s q k l
  spot_ranked (Pick x c p k) (suc (suc zero)) w h (s, q, l) = omega arith
  spot_ranked (Pick x c p k) (suc (suc (suc r))) w h (s, q, l) = absurd (omega arith)

  pub new-rank : ℕ → ℕ
  new-rank i = rank_of (get_or (spots N f Z) i no_spot)

  pub new_ranked : Ranked (gated_with N f Z) new-rank
  unfolding new-rank
  new_ranked = placed_rank in_clock rank_of spot_ranked

  pub new_settles : Settles (gated_with N f Z)
  new_settles = ranked_settles in_clock (gated_with N f Z) new-rank new_sourced new_ranked
