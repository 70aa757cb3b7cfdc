-- What is left of a netlist without its unread tables: every node, over its own table at the new number. Assumes nothing.
use Rattle.std.specs.Prelude.{◌≡◌, refl, ℕ, ◌≤◌, ◌<◌, length}
use Rattle.std.proofs.Common.{sym, ◌∙◌}
use Rattle.std.proofs.Math.Path.{ap, subst}
use Rattle.std.proofs.Math.Bool.{true}
use Rattle.std.proofs.lemmas.Bool.{false≢true}
use Rattle.std.proofs.Math.ListN.{get_or, length-map, get_or-map}
use Rattle.lists.specs.Lists.{count_below}
use Rattle.lists.proofs.BelowLaws.{any_below_intro, any_below_elim, count_below-le, count_below-lt}
use Rattle.lists.proofs.ListsLaws.{length-select, get_or_select}
use Rattle.lists.specs.SelectLaws.{Member}
use Rattle.lists.proofs.SelectLaws.{some_member, select_at}
use Rattle.netlist.specs.declared.Element.{Element}
use Rattle.netlist.specs.declared.Element.TheVariants.{Input, Output, Register, Async, Clocked, Gate}
use Rattle.netlist.specs.declared.Node.{Node}
use Rattle.netlist.specs.Net.{no_table, table_of, Net, size, node_at, nowhere, element_at, width_at, source, is_memory}
use Rattle.netlist.specs.Verdict.{reads_table, table_in_use}
use Rattle.netlist.specs.Checks.{table_in, TableHasReader, TablesRead}
use Rattle.netlist.proofs.Memories.{reads_own, reads_only}
use Rattle.netlist.specs.Trim.{table_number, over_table, renumbered, trimmed}

-- ---- what the number of its table does not touch of an element

pub record Blind {A : Type 0} (X : Element → A) : Type 0 where
  pub same : (k : ℕ) (e : Element) → X (over_table k e) ≡ X e

pub table_over : (k : ℕ) (e : Element) → is_memory e ≡ true → table_of (over_table k e) ≡ k
table_over k Input h = absurd (false≢true h)
table_over k Output h = absurd (false≢true h)
table_over k (Register r) h = absurd (false≢true h)
table_over k (Async m) h = refl
table_over k (Clocked m r) h = refl
table_over k (Gate o) h = absurd (false≢true h)

-- only a memory shows it
pub over_same : (k j : ℕ) (e : Element) → (is_memory e ≡ true → k ≡ j) → over_table k e ≡ over_table j e
over_same k j Input h = refl
over_same k j Output h = refl
over_same k j (Register r) h = refl
over_same k j (Async m) h = ap (λ (i : ℕ). over_table i (Async m)) (h refl)
over_same k j (Clocked m r) h = ap (λ (i : ℕ). over_table i (Clocked m r)) (h refl)
over_same k j (Gate o) h = refl

pub over_own : (e : Element) → over_table (table_of e) e ≡ e
over_own Input = refl
over_own Output = refl
over_own (Register r) = refl
over_own (Async m) = refl
over_own (Clocked m r) = refl
over_own (Gate o) = refl

pub blind_memory : Blind is_memory
blind_memory = record { same = λ k e. elim e as (λ v. is_memory (over_table k v) ≡ is_memory v) [ Input ↦ refl | Output ↦ refl | Register r ↦ refl | Async m ↦ refl | Clocked m r ↦ refl | Gate o ↦ refl ] }

module _ (N : Net) where
  -- ---- the nodes

  pub size-trimmed : size (trimmed N) ≡ size N
  unfolding trimmed
  size-trimmed = length-map N.nodes (renumbered (table_number N))

  pub inside_trimmed : {v : ℕ} → v < size (trimmed N) → v < size N
  inside_trimmed {v} h = subst (λ (n : ℕ). v < n) size-trimmed h

  pub node_trimmed : (v : ℕ) → node_at (trimmed N) v ≡ renumbered (table_number N) (node_at N v)
  unfolding trimmed node_at renumbered
  node_trimmed v = get_or-map (renumbered (table_number N)) N.nodes v nowhere

  pub element_trimmed : (v : ℕ) → element_at (trimmed N) v ≡ over_table (table_number N (table_of (element_at N v))) (element_at N v)
  unfolding element_at renumbered
  element_trimmed v = ap (λ (n : Node). n.element) (node_trimmed v)

  pub width_trimmed : (v : ℕ) → width_at (trimmed N) v ≡ width_at N v
  unfolding width_at renumbered
  width_trimmed v = ap (λ (n : Node). n.width) (node_trimmed v)

  pub source-trimmed : (v p : ℕ) → source (trimmed N) v p ≡ source N v p
  unfolding source renumbered
  source-trimmed v p = ap (λ (n : Node). get_or n.sources p 0) (node_trimmed v)

  pub blind_trimmed : {A : Type 0} {X : Element → A} → Blind X → (v : ℕ) → X (element_at (trimmed N) v) ≡ X (element_at N v)
  blind_trimmed {X = X} b v = ap X (element_trimmed v) ∙ b.same (table_number N (table_of (element_at N v))) (element_at N v)

  -- ---- the tables

  count_trimmed : length (trimmed N).tables ≡ count_below (table_in_use N) (length N.tables)
  unfolding trimmed
  count_trimmed = length-select (table_in_use N) (λ m. get_or N.tables m no_table) (length N.tables)

  pub fewer_tables : length (trimmed N).tables ≤ length N.tables
  fewer_tables = rw count_trimmed (count_below-le (table_in_use N) (length N.tables))

  pub tables-trimmed : (m : ℕ) → m < length (trimmed N).tables → (k : ℕ) × (Member (table_in_use N) (length N.tables) m k) × (table_in (trimmed N).tables m ≡ table_in N.tables k)
  unfolding trimmed
  tables-trimmed m h =
      let k = some_member (table_in_use N) (length N.tables) m (subst (λ (n : ℕ). m < n) count_trimmed h) in
      (k.0, k.1, select_at (λ j. get_or N.tables j no_table) no_table k.1)

  -- one that a node reads stands at its new number
  module _ (m : ℕ) (l : m < length N.tables) (read : TableHasReader N m) where
    in_use : table_in_use N m ≡ true
    unfolding table_in_use
    in_use = any_below_intro (size N) (λ v. reads_table (element_at N v) m) read.0 read.1 read.2

    pub table_kept : table_in (trimmed N).tables (table_number N m) ≡ table_in N.tables m
    unfolding trimmed table_number
    table_kept = get_or_select (table_in_use N) (λ k. get_or N.tables k no_table) (length N.tables) m no_table l in_use

    pub number_kept : table_number N m < length (trimmed N).tables
    unfolding table_number
    number_kept = rw count_trimmed (count_below-lt (table_in_use N) m (length N.tables) in_use l)

  -- THE LAW: each table that is left is read
  pub trimmed-read : TablesRead (trimmed N)
  unfolding table_in_use table_number
  trimmed-read m h = by_table (tables-trimmed m h)
    where
      by_reader_lem : (k v : ℕ) → count_below (table_in_use N) k ≡ m → reads_table (element_at N v) k ≡ true → reads_table (element_at (trimmed N) v) m ≡ true
      by_reader_lem k v e r =
          let o = reads_only (element_at N v) k r in
          let t : table_of (element_at (trimmed N) v) ≡ m
          = ap table_of (element_trimmed v) ∙ table_over _ (element_at N v) o.0 ∙ ap (table_number N) o.1 ∙ e in
          subst (λ (j : ℕ). reads_table (element_at (trimmed N) v) j ≡ true) t (reads_own (element_at (trimmed N) v) (blind_trimmed blind_memory v ∙ o.0))

      by_table : (k : ℕ) × (Member (table_in_use N) (length N.tables) m k) × (table_in (trimmed N).tables m ≡ table_in N.tables k) → TableHasReader (trimmed N) m
      by_table (k, b, e) =
          let (v, l, r) = any_below_elim (size N) (λ x. reads_table (element_at N x) k) b.on in
          (v, subst (λ (n : ℕ). v < n) (sym size-trimmed) l, by_reader_lem k v b.place r)
