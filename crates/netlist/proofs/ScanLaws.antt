-- What the fields that a scan finds are. Assumes nothing.
use Rattle.std.specs.Prelude.{◌≡◌, length}
use Rattle.std.proofs.Math.Path.{refl}
use Rattle.std.proofs.Common.{ap, subst, arith, length-append}
use mathlib.Core.List.{List, [], ◌∷◌, ◌++◌}
use Prim.Native.Nat.{ℕ, zero, suc, ◌+◌, ◌≤◌, ◌<◌, zero-le}
use Rattle.lists.proofs.ListsLaws.{All, all_append, all_get_d}
use Rattle.lists.proofs.Paths.{arms, arms_lt}
use Rattle.netlist.specs.Field.{field_end}
use Rattle.netlist.specs.Scan.{Step, Refuse, TableField, NodeField, EndField, table_step, node_step, end_step, step_at, Scan, refused, found, follow, walk, after_head, scan}
use Rattle.netlist.specs.ScanLaws.{TableAt, NodeAt, Fair, refusal, table, node, end, Ends, nothing, fields, Keeps, Last, Found}

pub step_fair : (s : List ℕ) (at t n : ℕ) → Fair s at t n (step_at s at t n)
unfolding step_at table_step node_step end_step
step_fair s at t n =
    arms_lt P _ _ (length s) (at + 3) (λ _. refusal 2 at) (λ _.
    arms_lt P _ _ (length s) (field_end s at) (λ _. refusal 2 at) (λ inside.
    arms P _ _ _ (λ _. of_table inside)
    (λ _. arms P _ _ _
    (λ _. arms_lt P _ _ n 1024 (λ h. arms P _ _ _ (λ g. node (field_end s at) refl (record { inside = inside; good = g }) h) (λ _. refusal 5 at)) (λ _. refusal 5 at))
    (λ _. arms P _ _ _
    (λ _. arms P _ _ _ (λ _. arms P _ _ _ (λ _. end) (λ _. refusal 3 (at + 3))) (λ _. refusal 3 at))
    (λ _. arms P _ _ _ (λ _. of_table inside) (λ _. refusal 3 at))))))
  where
    P : Step → Type 0
    P = Fair s at t n

    of_table : field_end s at ≤ length s → P (table_step s at t n)
    of_table inside =
        arms_lt P _ _ 0 n (λ _. refusal 3 at) (λ z.
        arms_lt P _ _ t 16 (λ h. arms P _ _ _ (λ g. table (field_end s at) refl (record { inside = inside; good = g }) h (omega (arith, z))) (λ _. refusal 4 at)) (λ _. refusal 4 at))

module _ (s : List ℕ) (at t n next : ℕ) where
  table_facts : Fair s at t n (TableField next) → (next ≡ field_end s at) × TableAt s at × (t < 16) × (n ≡ 0)
  table_facts (table m e g h z) = (e, g, h, z)

  node_facts : Fair s at t n (NodeField next) → (next ≡ field_end s at) × NodeAt s at × (n < 1024)
  node_facts (node m e g h) = (e, g, h)

  pub table_step_lem : step_at s at t n ≡ TableField next → (next ≡ field_end s at) × TableAt s at × (t < 16) × (n ≡ 0)
  table_step_lem e = table_facts (subst (Fair s at t n) e (step_fair s at t n))

  pub node_step_lem : step_at s at t n ≡ NodeField next → (next ≡ field_end s at) × NodeAt s at × (n < 1024)
  node_step_lem e = node_facts (subst (Fair s at t n) e (step_fair s at t n))

-- the walk takes the step that stands at the offset
pub walk_step : (k : ℕ) (s : List ℕ) (at : ℕ) (ts ns : List ℕ) (x : Step) → step_at s at (length ts) (length ns) ≡ x
    → walk (suc k) s at ts ns ≡ follow x (found ts ns) (λ next. walk k s next (ts ++ (at ∷ [])) ns) (λ next. walk k s next ts (ns ++ (at ∷ [])))
unfolding walk
walk_step k s at ts ns x e = ap (λ (y : Step). follow y (found ts ns) (λ next. walk k s next (ts ++ (at ∷ [])) ns) (λ next. walk k s next ts (ns ++ (at ∷ [])))) e

module _ (s : List ℕ) (P : ℕ → List ℕ → List ℕ → Type 0) (keeps : Keeps s P) where
  pub walk_keeps : (k at : ℕ) (ts ns : List ℕ) → P at ts ns → Ends (Last s P keeps) (walk k s at ts ns)
  unfolding walk
  walk_keeps zero at ts ns p = nothing
  walk_keeps (suc k) at ts ns p = by_step (step_at s at (length ts) (length ns)) refl (λ next e. walk_keeps k next (ts ++ (at ∷ [])) ns (keeps.table at ts ns next e p)) (λ next e. walk_keeps k next ts (ns ++ (at ∷ [])) (keeps.node at ts ns next e p))
    where
      by_step : (x : Step) → step_at s at (length ts) (length ns) ≡ x → ((next : ℕ) → step_at s at (length ts) (length ns) ≡ TableField next → Ends (Last s P keeps) (walk k s next (ts ++ (at ∷ [])) ns))
          → ((next : ℕ) → step_at s at (length ts) (length ns) ≡ NodeField next → Ends (Last s P keeps) (walk k s next ts (ns ++ (at ∷ []))))
          → Ends (Last s P keeps) (follow x (found ts ns) (λ next. walk k s next (ts ++ (at ∷ [])) ns) (λ next. walk k s next ts (ns ++ (at ∷ []))))
      by_step (Refuse m q) e f g = nothing
      by_step (TableField next) e f g = f next e
      by_step (NodeField next) e f g = g next e
      by_step EndField e f g = fields (at, p, e)

  pub scan_keeps : P 4 [] [] → Ends (Last s P keeps) (scan s)
  unfolding scan after_head
  scan_keeps p =
      arms (Ends (Last s P keeps)) _ _ _ (λ _. nothing) (λ _.
      arms (Ends (Last s P keeps)) _ _ _ (λ _. nothing) (λ _.
      arms (Ends (Last s P keeps)) _ _ _ (λ _. nothing) (λ _.
      arms (Ends (Last s P keeps)) _ _ _ (λ _. arms (Ends (Last s P keeps)) _ _ _ (λ _. arms (Ends (Last s P keeps)) _ _ _ (λ _. walk_keeps (length s) 4 [] [] p) (λ _. nothing)) (λ _. nothing)) (λ _. nothing))))

-- ---- all that is found is whole and well made, and within the counts

record Sound (s : List ℕ) (at : ℕ) (ts ns : List ℕ) : Type 0 where
  few_tables : length ts ≤ 16
  few_nodes : length ns ≤ 1024
  tables : All (TableAt s) ts
  nodes : All (NodeAt s) ns

one_more : (l : List ℕ) (at : ℕ) → length (l ++ (at ∷ [])) ≡ length l + 1
one_more l at = length-append l (at ∷ [])

sound : (s : List ℕ) → Keeps s (Sound s)
sound s = record {
  table = λ at ts ns next e p. let f = table_step_lem s at (length ts) (length ns) next e in
      record { few_tables = omega (arith, one_more ts at, f.2); few_nodes = p.few_nodes; tables = all_append (TableAt s) ts (at ∷ []) p.tables (f.1, tt); nodes = p.nodes };
  node = λ at ts ns next e p. let f = node_step_lem s at (length ts) (length ns) next e in
      record { few_tables = p.few_tables; few_nodes = omega (arith, one_more ns at, f.2); tables = p.tables; nodes = all_append (NodeAt s) ns (at ∷ []) p.nodes (f.1, tt) };
}

data Short (s : List ℕ) : Scan → Type 0 where
  turned_away : {k p : ℕ} → Short s (refused k p)
  short : {w : Scan} → length s ≤ 46000 → Short s w

scan_short : (s : List ℕ) → Short s (scan s)
unfolding scan
scan_short s = arms_lt (Short s) _ _ 46000 (length s) (λ _. turned_away) (λ h. short h)

pub scan_found : (s ts ns : List ℕ) → scan s ≡ found ts ns → Found s ts ns
scan_found s ts ns e = go (subst (Ends (Last s (Sound s) (sound s))) e (scan_keeps s (Sound s) (sound s) (record { few_tables = zero-le; few_nodes = zero-le; tables = tt; nodes = tt }))) (subst (Short s) e (scan_short s))
  where
    go : Ends (Last s (Sound s) (sound s)) (found ts ns) → Short s (found ts ns) → Found s ts ns
    go (fields (at, p, z)) (short l) = record { short = l; few_tables = p.few_tables; few_nodes = p.few_nodes; tables = λ i h. all_get_d (TableAt s) ts i 0 p.tables h; nodes = λ i h. all_get_d (NodeAt s) ns i 0 p.nodes h }
