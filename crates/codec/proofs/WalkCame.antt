-- The fields that a walk finds in a file of bytes, as they came: tables, then nodes, then the end. Assumes nothing.
use Rattle.std.specs.Prelude.{◌≡◌, List, [], ◌∷◌, ◌++◌, map, ℕ, ◌+◌, ◌≤◌, length, drop}
use Rattle.std.proofs.Common.{ap, sym, ◌∙◌, subst, append_assoc, arith, drop_of_length-le}
use Rattle.lists.specs.Lists.{concat_map}
use Rattle.lists.proofs.ListsLaws.{no_length}
use Rattle.lists.proofs.Paths.{arms, arms_lt, arms_eq}
use Rattle.netlist.specs.Field.{tag_at, length_at, field_end, content, field}
use Rattle.netlist.specs.Scan.{Step, Refuse, TableField, NodeField, EndField, table_step, node_step, end_step, step_at}
use Rattle.netlist.specs.ScanLaws.{TableAt, NodeAt, Keeps}
use Rattle.netlist.specs.File.{table_in, node_in, table_bytes, node_bytes}
use Rattle.codec.specs.Bytes.{Bytes}
use Rattle.codec.proofs.NodeCame.{node_as_it_came}
use Rattle.codec.proofs.FieldCame.{content-bytes, field_is, table_then}

module _ (s : List ℕ) (b : Bytes s) where
  -- ---- one field, and what follows it

  data Came (at n : ℕ) : Step → Type 0 where
    refusal : {k p : ℕ} → Came at n (Refuse k p)
    table : n ≡ 0 → TableAt s at → Came at n (TableField (field_end s at))
    node : drop at s ≡ node_bytes (node_in s at) ++ drop (field_end s at) s → Came at n (NodeField (field_end s at))
    end : drop at s ≡ field 4 [] → Came at n EndField

  node_came : (at : ℕ) → NodeAt s at → tag_at s at ≡ 3 → drop at s ≡ node_bytes (node_in s at) ++ drop (field_end s at) s
  unfolding node_in
  node_came at t tag = field_is s b at t.inside 3 _ tag (sym (node_as_it_came (content s at) (content-bytes s b at) t.good))

  end_came : (at : ℕ) → field_end s at ≤ length s → tag_at s at ≡ 4 → length_at s at ≡ 0 → at + 3 ≡ length s → drop at s ≡ field 4 []
  end_came at inside tag empty last =
      field_is s b at inside 4 [] tag (rw empty)
      ∙ ap (λ (l : List ℕ). field 4 [] ++ l) (drop_of_length-le s {i = field_end s at} (omega arith))

  step_came : (at t n : ℕ) → Came at n (step_at s at t n)
  unfolding step_at table_step node_step end_step
  step_came at t n =
      arms_lt P _ _ (length s) (at + 3) (λ _. refusal) (λ _.
      arms_lt P _ _ (length s) (field_end s at) (λ _. refusal) (λ inside.
      arms P _ _ _ (λ _. of_table inside)
      (λ _. arms_eq P _ _ (tag_at s at) 3
      (λ tag. arms P _ _ _ (λ _. arms P _ _ _ (λ g. node (node_came at (record { inside = inside; good = g }) tag)) (λ _. refusal)) (λ _. refusal))
      (λ _. arms_eq P _ _ (tag_at s at) 4
      (λ tag. arms_eq P _ _ (length_at s at) 0 (λ empty. arms_eq P _ _ (at + 3) (length s) (λ last. end (end_came at inside tag empty last)) (λ _. refusal)) (λ _. refusal))
      (λ _. arms P _ _ _ (λ _. of_table inside) (λ _. refusal))))))
    where
      P : Step → Type 0
      P = Came at n

      of_table : field_end s at ≤ length s → P (table_step s at t n)
      of_table inside =
          arms_lt P _ _ 0 n (λ _. refusal) (λ none.
          arms P _ _ _ (λ _. arms P _ _ _ (λ g. table (omega arith) (record { inside = inside; good = g })) (λ _. refusal)) (λ _. refusal))

  -- ---- the fields so far; after a node there is no table

  abbrev pub fields_of : List ℕ → List ℕ → List ℕ → List ℕ
  fields_of ts ns rest = concat_map table_bytes (map (table_in s) ts) ++ (concat_map node_bytes (map (node_in s) ns) ++ rest)

  -- the file after its head is the fields so far, and what follows
  abbrev pub Fields : ℕ → List ℕ → List ℕ → Type 0
  Fields at ts ns = drop 4 s ≡ fields_of ts ns (drop at s)

  more : {A : Type 0} (f : A → List ℕ) (g : ℕ → A) (l : List ℕ) (at : ℕ) (rest : List ℕ) → concat_map f (map g (l ++ (at ∷ []))) ++ rest ≡ concat_map f (map g l) ++ (f (g at) ++ rest)
  more f g [] at rest = append_assoc (f (g at)) [] rest
  more f g (x ∷ l) at rest =
      append_assoc (f (g x)) (concat_map f (map g (l ++ (at ∷ [])))) rest ∙ ap (λ (m : List ℕ). f (g x) ++ m) (more f g l at rest) ∙ sym (append_assoc (f (g x)) (concat_map f (map g l)) (f (g at) ++ rest))

  more-tables : (at : ℕ) (ts ns : List ℕ) (next : ℕ) → Came at (length ns) (TableField next) → Fields at ts ns → Fields next (ts ++ (at ∷ [])) ns
  more-tables at ts ns next (table z t) f =
      let none : ns ≡ [] = no_length ns z in
      f ∙ ap (λ (l : List ℕ). fields_of ts l (drop at s)) none ∙ ap (λ (l : List ℕ). concat_map table_bytes (map (table_in s) ts) ++ l) (table_then s b at t)
      ∙ sym (more table_bytes (table_in s) ts at (drop (field_end s at) s)) ∙ ap (λ (l : List ℕ). fields_of (ts ++ (at ∷ [])) l (drop (field_end s at) s)) (sym none)

  more-nodes : (at : ℕ) (ts ns : List ℕ) (next : ℕ) → Came at (length ns) (NodeField next) → Fields at ts ns → Fields next ts (ns ++ (at ∷ []))
  more-nodes at ts ns next (node e) f =
      f ∙ ap (λ (l : List ℕ). concat_map table_bytes (map (table_in s) ts) ++ l)
      (ap (λ (l : List ℕ). concat_map node_bytes (map (node_in s) ns) ++ l) e ∙ sym (more node_bytes (node_in s) ns at (drop (field_end s at) s)))

  pub fields_kept : Keeps s Fields
  fields_kept = record {
    table = λ at ts ns next e. more-tables at ts ns next (subst (Came at (length ns)) e (step_came at (length ts) (length ns)));
    node = λ at ts ns next e. more-nodes at ts ns next (subst (Came at (length ns)) e (step_came at (length ts) (length ns)));
  }

  end_of : (at n : ℕ) → Came at n EndField → drop at s ≡ field 4 []
  end_of at n (end e) = e

  pub last_came : (at t n : ℕ) → step_at s at t n ≡ EndField → drop at s ≡ field 4 []
  last_came at t n e = end_of at n (subst (Came at n) e (step_came at t n))
