-- One check of the reader, from the lowest node or table that the code found. Assumes nothing.
use mathlib.Core.Path.{◌≡◌, sym, ◌∙◌}
use mathlib.Core.Bool.{Bool, false}
use mathlib.Core.List.{List, [], ◌∷◌}
use Prim.Native.Nat.{ℕ, ◌≤◌, ◌<◌, zero-le}
use native.Mathlib.Omega.{arith}
use lib.ListN.{length}
use Rattle.lists.specs.Lists.{lowest}
use Rattle.lists.proofs.BelowLaws.{lowest_from_is}
use Rattle.netlist.specs.Net.{in_clock, in_registers, Net, size, Sourced}
use Rattle.netlist.specs.Reach.{reaches_itself}
use Rattle.netlist.specs.Checks.{HasTables}
use Rattle.netlist.specs.Verdict.{bad_source, bad_width, unread, unread_table, in_loop, in_ring, Stage, at_lowest, verdict, reader_stages, reader_verdict, Fine, Refuses}
use Rattle.netlist.proofs.VerdictLaws.{six_is, six_sourced}
use Rattle.netlist.proofs.Places.{skip, refuses}
use Rattle.checks.specs.Open.{from_nine}

-- past a check that found nothing, nothing breaks its rule
pub free : (n : ℕ) (q : ℕ → Bool) (v : ℕ) → v ≡ lowest n q → n ≤ v → (u : ℕ) → u < n → q u ≡ false
free n q v e h u l = (lowest_from_is q 0 n).none_before u zero-le (omega arith)

-- a check refuses, or hands on to the next
module _ (k n : ℕ) (q : ℕ → Bool) (l : List Stage) {v : ℕ} (e : v ≡ lowest n q) where
  pub stage_refuses : v < n → Refuses k v ≡ verdict (at_lowest k n q ∷ l)
  stage_refuses h = sym (refuses k n q l v (sym e, h))

  pub stage_passes : n ≤ v → verdict (at_lowest k n q ∷ l) ≡ verdict l
  stage_passes h = skip (at_lowest k n q) l (free n q v e h)

module _ (N : Net) where
  -- the numbers of nodes and of tables
  abbrev n : ℕ
  n = size N

  abbrev m : ℕ
  m = length N.tables

  -- 9 and 10
  pub nine_refuses : {a : ℕ} → a ≡ lowest n (reaches_itself in_clock N) → a < n → Refuses 9 a ≡ verdict (from_nine N)
  unfolding in_loop
  nine_refuses e h = stage_refuses 9 n (in_loop N) (at_lowest 10 n (in_ring N) ∷ []) e h

  module _ {a b : ℕ} (e : a ≡ lowest n (reaches_itself in_clock N)) (f : b ≡ lowest n (reaches_itself in_registers N)) where
    pub ten_refuses : n ≤ a → b < n → Refuses 10 b ≡ verdict (from_nine N)
    unfolding in_loop in_ring
    ten_refuses g h = stage_refuses 10 n (in_ring N) [] f h ∙ sym (stage_passes 9 n (in_loop N) (at_lowest 10 n (in_ring N) ∷ []) e g)

    pub all_pass : n ≤ a → n ≤ b → Fine ≡ verdict (from_nine N)
    unfolding in_loop in_ring verdict
    all_pass g h = sym (stage_passes 9 n (in_loop N) (at_lowest 10 n (in_ring N) ∷ []) e g ∙ stage_passes 10 n (in_ring N) [] f h)

  -- 6, 7, 8 and 17
  module _ {a : ℕ} (e : a ≡ lowest n (bad_source N)) where
    pub six_refuses : a < n → Refuses 6 a ≡ reader_verdict N
    unfolding reader_verdict reader_stages
    six_refuses h = stage_refuses 6 n (bad_source N) _ e h

    pub sourced : n ≤ a → Sourced N
    sourced h = six_sourced N (free n (bad_source N) a e h)

    pub tables_there : n ≤ a → HasTables N
    tables_there h v l = ((six_is N v).0 (free n (bad_source N) a e h v l)).0

    module _ {b : ℕ} (f : b ≡ lowest n (bad_width N)) where
      pub seven_refuses : n ≤ a → b < n → Refuses 7 b ≡ reader_verdict N
      unfolding reader_verdict reader_stages
      seven_refuses g h = stage_refuses 7 n (bad_width N) _ f h ∙ sym (stage_passes 6 n (bad_source N) _ e g)

      module _ {c : ℕ} (d : c ≡ lowest n (unread N)) where
        pub eight_refuses : n ≤ a → n ≤ b → c < n → Refuses 8 c ≡ reader_verdict N
        unfolding reader_verdict reader_stages
        eight_refuses g h i = stage_refuses 8 n (unread N) _ d i ∙ sym (stage_passes 6 n (bad_source N) _ e g ∙ stage_passes 7 n (bad_width N) _ f h)

        to_tables : n ≤ a → n ≤ b → n ≤ c → verdict (at_lowest 17 m (unread_table N) ∷ from_nine N) ≡ reader_verdict N
        unfolding reader_verdict reader_stages
        to_tables g h i = sym (stage_passes 6 n (bad_source N) _ e g ∙ stage_passes 7 n (bad_width N) _ f h ∙ stage_passes 8 n (unread N) _ d i)

        module _ {t : ℕ} (o : t ≡ lowest m (unread_table N)) (g : n ≤ a) (h : n ≤ b) (i : n ≤ c) where
          pub seventeen_refuses : t < m → Refuses 17 t ≡ reader_verdict N
          seventeen_refuses j = stage_refuses 17 m (unread_table N) (from_nine N) o j ∙ to_tables g h i

          pub to_nine : m ≤ t → verdict (from_nine N) ≡ reader_verdict N
          to_nine j = sym (stage_passes 17 m (unread_table N) (from_nine N) o j) ∙ to_tables g h i
