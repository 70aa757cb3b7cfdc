-- Laws of what specs/Numbers.antt defines. Assumes nothing.
use Rattle.std.specs.Prelude.{◌≡◌, Bool, true, false, length}
use Rattle.std.proofs.Math.Logic.{⊎_elim}
use mathlib.Core.List.{List, [], ◌∷◌, ◌++◌}
use Prim.Native.Nat.{ℕ, zero, suc}
use Rattle.std.proofs.Math.Dec.{ltb}
use Rattle.lists.specs.Lists.{lowest}
use Rattle.lists.proofs.BelowLaws.{true_or_false}
use Rattle.lists.specs.Paths.{pick}
use Rattle.lists.proofs.Paths.{arms}
use Rattle.netlist.specs.Scan.{Step, Refuse, TableField, NodeField, EndField, table_step, node_step, end_step, step_at, Scan, refused, found, follow, walk, after_head, scan}
use Rattle.netlist.specs.Verdict.{Stage, verdict, onward, reader_stages, reader_verdict, Verdict, Fine, Refuses}
use Rattle.netlist.specs.Net.{Net}
use Rattle.netlist.specs.File.{net_in, decoded, decode, judged, file_verdict}
use Rattle.netlist.specs.Numbers.{Says, SaysEach}

module _ (P : ℕ → Type 0) where
  pub says_verdict : (l : List Stage) → SaysEach P l → Says P (verdict l)
  unfolding verdict
  says_verdict [] h = tt
  says_verdict (s ∷ l) (h, t) =
      ⊎_elim
      (λ (e : ltb (lowest s.over s.bad) s.over ≡ true). rw (e, verdict) h)
      (λ (e : ltb (lowest s.over s.bad) s.over ≡ false). rw (e, verdict) (says_verdict l t))
      (true_or_false (ltb (lowest s.over s.bad) s.over))

  pub says_onward : (v w : Verdict) → Says P v → Says P w → Says P (onward v w)
  says_onward Fine w h k = k
  says_onward (Refuses m p) w h k = h

  -- ---- 1 to 5

  data SaysStep : Step → Type 0 where
    refuses : {k p : ℕ} → P k → SaysStep (Refuse k p)
    table : {next : ℕ} → SaysStep (TableField next)
    node : {next : ℕ} → SaysStep (NodeField next)
    end : SaysStep EndField

  data SaysScan : Scan → Type 0 where
    is_refused : {k p : ℕ} → P k → SaysScan (refused k p)
    is_found : {ts ns : List ℕ} → SaysScan (found ts ns)

  module _ (one : P 1) (two : P 2) (three : P 3) (four : P 4) (five : P 5) where
    arms_step : {x y : Step} (b : Bool) → SaysStep x → SaysStep y → SaysStep (pick b x y)
    arms_step {x} {y} b h k = arms SaysStep x y b (λ e. h) (λ e. k)

    step_says : (s : List ℕ) (at t n : ℕ) → SaysStep (step_at s at t n)
    unfolding step_at table_step node_step end_step
    step_says s at t n =
        arms_step _ (refuses two) (arms_step _ (refuses two)
        (arms_step _ of_table
        (arms_step _ (arms_step _ (arms_step _ node (refuses five)) (refuses five))
        (arms_step _ (arms_step _ (arms_step _ end (refuses three)) (refuses three))
        (arms_step _ of_table (refuses three))))))
      where
        of_table : SaysStep (table_step s at t n)
        of_table = arms_step _ (refuses three) (arms_step _ (arms_step _ table (refuses four)) (refuses four))

    follow_says : {x : Step} {done : Scan} {tables nodes : ℕ → Scan} → SaysStep x → SaysScan done → ((i : ℕ) → SaysScan (tables i)) → ((i : ℕ) → SaysScan (nodes i)) → SaysScan (follow x done tables nodes)
    follow_says (refuses h) d t n = is_refused h
    follow_says (table {next}) d t n = t next
    follow_says (node {next}) d t n = n next
    follow_says end d t n = d

    walk_says : (k : ℕ) (s : List ℕ) (at : ℕ) (ts ns : List ℕ) → SaysScan (walk k s at ts ns)
    unfolding walk
    walk_says zero s at ts ns = is_refused two
    walk_says (suc k) s at ts ns = follow_says (step_says s at (length ts) (length ns)) is_found (λ i. walk_says k s i (ts ++ (at ∷ [])) ns) (λ i. walk_says k s i ts (ns ++ (at ∷ [])))

    arms_scan : {x y : Scan} (b : Bool) → SaysScan x → SaysScan y → SaysScan (pick b x y)
    arms_scan {x} {y} b h k = arms SaysScan x y b (λ e. h) (λ e. k)

    scan_says : (s : List ℕ) → SaysScan (scan s)
    unfolding scan after_head
    scan_says s =
        arms_scan _ (is_refused one) (arms_scan _ (is_refused two) (arms_scan _ (is_refused two)
        (arms_scan _ (arms_scan _ (arms_scan _ (walk_says (length s) s 4 [] []) (is_refused three)) (is_refused three)) (is_refused three))))

    judged_says : (s : List ℕ) {w : Scan} → SaysScan w → ((N : Net) → Says P (reader_verdict N)) → Says P (judged (decoded s w))
    judged_says s (is_refused h) f = h
    judged_says s (is_found {ts} {ns}) f = f (net_in s ts ns)

    -- 1 to 10
    pub says_file : ((N : Net) → SaysEach P (reader_stages N)) → (s : List ℕ) → Says P (file_verdict s)
    unfolding file_verdict decode reader_verdict
    says_file f s = judged_says s (scan_says s) (λ N. says_verdict (reader_stages N) (f N))
