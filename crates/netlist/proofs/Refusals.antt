-- WHAT 6 TO 10 AND 17 MEAN. Each is said, of a netlist that the checks before it pass, just where a node (for 17 a table) breaks its rule, and its place is the
-- lowest such. This rules out a reader that refuses too much or too little, and one that names another node or table. Assumes nothing.
use Rattle.std.specs.Prelude.{◌≡◌, ◌↔◌, true, List, [], ◌∷◌, ℕ, ◌<◌, length}
use Rattle.std.proofs.Common.{◌∙◌}
use Rattle.std.proofs.Math.Logic.{⊎_elim}
use Rattle.std.proofs.Math.Bool.{false}
use native.Mathlib.Omega.{arith}
use Rattle.lists.proofs.BelowLaws.{true_or_false}
use Rattle.netlist.specs.Net.{in_clock, in_registers, Net, size, Sourced}
use Rattle.netlist.proofs.ReachLaws.{reaches_itself_iff}
use Rattle.netlist.specs.Rank.{Through}
use Rattle.netlist.specs.Logic.{in_logic}
use Rattle.netlist.proofs.Logic.{through_logic}
use Rattle.netlist.specs.Checks.{SourcesRight, WidthsRight, HasReader, TableHasReader, TablesRead}
use Rattle.netlist.specs.Verdict.{bad_source, bad_width, unread, unread_table, in_loop, in_ring, Stage, at_lowest, verdict, reader_stages, reader_verdict, Refuses}
use Rattle.netlist.proofs.VerdictLaws.{six_is, seven_is, eight_is, seventeen_is, six_sourced}
use Rattle.netlist.specs.Places.{LowestOf}
use Rattle.netlist.proofs.Places.{breaks_is, skip, refuses_iff}

module _ (N : Net) where
  -- 17, 9 and 10
  abbrev from_17 : List Stage
  from_17 = at_lowest 17 (length N.tables) (unread_table N) ∷ at_lowest 9 (size N) (in_loop N) ∷ at_lowest 10 (size N) (in_ring N) ∷ []

  -- 6: "no such node or table, or an output port as source"
  pub six_means : (v : ℕ) → reader_verdict N ≡ Refuses 6 v ↔ LowestOf (size N) (λ u. SourcesRight N u → ⊥) v
  unfolding reader_verdict reader_stages
  six_means =
      refuses_iff 6 (size N) (bad_source N) _ _ (λ u h. breaks_is (bad_source N u) (SourcesRight N u) (six_is N u))
      (λ e. omega arith, (λ e. omega arith, (λ e. omega arith, (λ e. omega arith, (λ e. omega arith, tt)))))

  module _ (six : (u : ℕ) → u < size N → SourcesRight N u) where
    sourced : Sourced N
    sourced = six_sourced N (λ u h. (six_is N u).1 (six u h))

    from_seven : reader_verdict N
        ≡ verdict (at_lowest 7 (size N) (bad_width N) ∷ at_lowest 8 (size N) (unread N) ∷ from_17)
    unfolding reader_verdict reader_stages
    from_seven = skip _ _ (λ u h. (six_is N u).1 (six u h))

    -- 7: "width rule broken"
    pub seven_means : (v : ℕ) → reader_verdict N ≡ Refuses 7 v ↔ LowestOf (size N) (λ u. WidthsRight N u → ⊥) v
    seven_means v = rw from_seven
        (refuses_iff 7 (size N) (bad_width N) _ _ (λ u h. breaks_is (bad_width N u) (WidthsRight N u) (seven_is N u))
        (λ e. omega arith, (λ e. omega arith, (λ e. omega arith, (λ e. omega arith, tt)))) v)

    module _ (seven : (u : ℕ) → u < size N → WidthsRight N u) where
      from_eight : reader_verdict N ≡ verdict (at_lowest 8 (size N) (unread N) ∷ from_17)
      from_eight = from_seven ∙ skip _ _ (λ u h. (seven_is N u).1 (seven u h))

      -- 8: "no reader, and not a port"
      pub eight_means : (v : ℕ) → reader_verdict N ≡ Refuses 8 v ↔ LowestOf (size N) (λ u. HasReader N u → ⊥) v
      eight_means v = rw from_eight
          (refuses_iff 8 (size N) (unread N) _ _ (λ u h. breaks_is (unread N u) (HasReader N u) (eight_is N u)) (λ e. omega arith, (λ e. omega arith, (λ e. omega arith, tt))) v)

      module _ (eight : (u : ℕ) → u < size N → HasReader N u) where
        from_seventeen : reader_verdict N ≡ verdict from_17
        from_seventeen = from_eight ∙ skip _ _ (λ u h. (eight_is N u).1 (eight u h))

        -- 17: "a table is read by no node, place the lowest such table's number"
        pub seventeen_means : (m : ℕ) → reader_verdict N ≡ Refuses 17 m ↔ LowestOf (length N.tables) (λ k. TableHasReader N k → ⊥) m
        seventeen_means m = rw from_seventeen
            (refuses_iff 17 (length N.tables) (unread_table N) _ _ (λ k h. breaks_is (unread_table N k) (TableHasReader N k) (seventeen_is N k)) (λ e. omega arith, (λ e. omega arith, tt)) m)

        module _ (tables : TablesRead N) where
          from_nine_lem : reader_verdict N ≡ verdict (at_lowest 9 (size N) (in_loop N) ∷ at_lowest 10 (size N) (in_ring N) ∷ [])
          from_nine_lem = from_seventeen ∙ skip _ _ (λ k h. (seventeen_is N k).1 (tables k h))

          loop_is : (u : ℕ) → u < size N → in_loop N u ≡ true ↔ Through in_logic N u u
          unfolding in_loop
          loop_is u h =
              let r = reaches_itself_iff in_clock N sourced u h in
              let l = through_logic N (λ v p i q. ((six v i).1 p q).1) u in
              (λ t. l.0 (r.0 t), λ w. r.1 (l.1 w))

          -- 9: "a gate or asynchronous ROM reaches itself through gates and asynchronous ROMs alone"
          pub nine_means : (v : ℕ) → reader_verdict N ≡ Refuses 9 v ↔ LowestOf (size N) (λ u. Through in_logic N u u) v
          nine_means v = rw from_nine_lem (refuses_iff 9 (size N) (in_loop N) _ _ loop_is (λ e. omega arith, tt) v)

          -- 10: "a register reaches itself through registers alone"
          pub ten_means : ((u : ℕ) → u < size N → Through in_logic N u u → ⊥) → (v : ℕ) → reader_verdict N ≡ Refuses 10 v ↔ LowestOf (size N) (λ u. Through in_registers N u u) v
          unfolding in_ring
          ten_means nine v = rw (from_nine_lem ∙ skip _ _ no_loop) (refuses_iff 10 (size N) (in_ring N) _ _ (λ u h. reaches_itself_iff in_registers N sourced u h) tt v)
            where
              no_loop : (u : ℕ) → u < size N → in_loop N u ≡ false
              no_loop u h = ⊎_elim (λ t. absurd (nine u h ((loop_is u h).0 t))) (λ t. t) (true_or_false (in_loop N u))
