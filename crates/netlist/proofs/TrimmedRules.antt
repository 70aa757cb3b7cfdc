-- A netlist that keeps the rules keeps them without its unread tables. Assumes nothing.
use Rattle.std.specs.Prelude.{◌≡◌, refl, true, List, ℕ, ◌<◌, length}
use Rattle.std.proofs.Common.{sym, ap, ◌∙◌, subst}
use Rattle.std.proofs.Math.Path.{fun_ext}
use Rattle.netlist.specs.declared.Element.{Element}
use Rattle.netlist.specs.declared.Element.TheVariants.{Input, Output, Register, Async, Clocked, Gate}
use Rattle.netlist.specs.Net.{Table, table_of, Net, size, element_at, width_at, source, operands, Class, in_clock, in_registers, is_input, is_output, is_async, is_memory, holds_word, Sourced}
use Rattle.netlist.specs.Reach.{Reads}
use Rattle.netlist.specs.Rank.{ReadsIn, Through, once, then}
use Rattle.netlist.specs.Checks.{table_in, ElementWidths, Fits, HasTable, HasTables, WidthsRight, HasReader, TableFits, WellFormed, TableHasReader}
use Rattle.netlist.proofs.Memories.{own-table, reads_own}
use Rattle.netlist.specs.Trim.{table_number, over_table, trimmed}
use Rattle.netlist.proofs.Trimmed.{Blind, size-trimmed, inside_trimmed, element_trimmed, width_trimmed, source-trimmed, blind_trimmed, tables-trimmed, table_kept, number_kept}

pub blind_input : Blind is_input
blind_input = record { same = λ k e. elim e as (λ v. is_input (over_table k v) ≡ is_input v) [ Input ↦ refl | Output ↦ refl | Register r ↦ refl | Async m ↦ refl | Clocked m r ↦ refl | Gate o ↦ refl ] }

pub blind_output : Blind is_output
blind_output = record { same = λ k e. elim e as (λ v. is_output (over_table k v) ≡ is_output v) [ Input ↦ refl | Output ↦ refl | Register r ↦ refl | Async m ↦ refl | Clocked m r ↦ refl | Gate o ↦ refl ] }

pub blind_async : Blind is_async
blind_async = record { same = λ k e. elim e as (λ v. is_async (over_table k v) ≡ is_async v) [ Input ↦ refl | Output ↦ refl | Register r ↦ refl | Async m ↦ refl | Clocked m r ↦ refl | Gate o ↦ refl ] }

pub blind_holds : Blind holds_word
blind_holds = record { same = λ k e. elim e as (λ v. holds_word (over_table k v) ≡ holds_word v) [ Input ↦ refl | Output ↦ refl | Register r ↦ refl | Async m ↦ refl | Clocked m r ↦ refl | Gate o ↦ refl ] }

pub blind_operands : Blind operands
blind_operands = record { same = λ k e. elim e as (λ v. operands (over_table k v) ≡ operands v) [ Input ↦ refl | Output ↦ refl | Register r ↦ refl | Async m ↦ refl | Clocked m r ↦ refl | Gate o ↦ refl ] }

blind_clock : Blind in_clock.of
blind_clock = record { same = λ k e. elim e as (λ v. in_clock.of (over_table k v) ≡ in_clock.of v) [ Input ↦ refl | Output ↦ refl | Register r ↦ refl | Async m ↦ refl | Clocked m r ↦ refl | Gate o ↦ refl ] }

blind_registers : Blind in_registers.of
blind_registers = record { same = λ k e. elim e as (λ v. in_registers.of (over_table k v) ≡ in_registers.of v) [ Input ↦ refl | Output ↦ refl | Register r ↦ refl | Async m ↦ refl | Clocked m r ↦ refl | Gate o ↦ refl ] }

-- ---- an element over another table

fits_over : (k : ℕ) (e : Element) (w : ℕ) → Fits e w → Fits (over_table k e) w
fits_over k Input w h = h
fits_over k Output w h = h
fits_over k (Register r) w h = h
fits_over k (Async m) w h = h
fits_over k (Clocked m r) w h = h
fits_over k (Gate o) w h = h

has_over : (ts : List Table) (k : ℕ) (e : Element) → (is_memory e ≡ true → k < length ts) → HasTable ts (over_table k e)
has_over ts k Input h = tt
has_over ts k Output h = tt
has_over ts k (Register r) h = tt
has_over ts k (Async m) h = h refl
has_over ts k (Clocked m r) h = h refl
has_over ts k (Gate o) h = tt

-- one of the same form
widths_over : (ts us : List Table) (k : ℕ) (e : Element) (w : ℕ) (ws : ℕ → ℕ) → (is_memory e ≡ true → table_in us k ≡ table_in ts (table_of e)) → ElementWidths ts e w ws → ElementWidths us (over_table k e) w ws
widths_over ts us k Input w ws h r = r
widths_over ts us k Output w ws h r = r
widths_over ts us k (Register q) w ws h r = r
widths_over ts us k (Async m) w ws h r = (r.0 ∙ ap (λ (t : Table). t.bits) (sym (h refl)), r.1 ∙ ap (λ (t : Table). t.wide) (sym (h refl)))
widths_over ts us k (Clocked m q) w ws h r = (r.0 ∙ ap (λ (t : Table). t.bits) (sym (h refl)), r.1 ∙ ap (λ (t : Table). t.wide) (sym (h refl)))
widths_over ts us k (Gate o) w ws h r = r

-- a walk within the netlist that is left
through_old : (K : Class) → Blind K.of → (N : Net) {u v : ℕ} → Through K (trimmed N) u v → Through K N u v
through_old K b N w = walked w
  where
    step : {x u : ℕ} → ReadsIn K (trimmed N) x u → ReadsIn K N x u
    step {x} r = record {
      operand = r.operand;
      inside = inside_trimmed N r.inside;
      used = subst (λ (n : ℕ). r.operand < n) (blind_trimmed N b x) r.used;
      from = sym (source-trimmed N x r.operand) ∙ r.from;
    }

    walked : {u v : ℕ} → Through K (trimmed N) u v → Through K N u v
    walked (once r) = once (step r)
    walked (then w r) = then (walked w) (step r)

module _ (N : Net) (has : HasTables N) where
  -- the table of a memory is read, by itself
  own_read : (v : ℕ) → v < size N → is_memory (element_at N v) ≡ true → TableHasReader N (table_of (element_at N v))
  own_read v h e = (v, h, reads_own (element_at N v) e)

  pub own_kept : (v : ℕ) → v < size N → is_memory (element_at N v) ≡ true → table_in (trimmed N).tables (table_number N (table_of (element_at N v))) ≡ table_in N.tables (table_of (element_at N v))
  own_kept v h e = table_kept N (table_of (element_at N v)) (own-table N.tables (element_at N v) (has v h) e) (own_read v h e)

  pub has_trimmed : HasTables (trimmed N)
  has_trimmed v h =
      rw (element_trimmed N v) (has_over (trimmed N).tables _ (element_at N v)
      (λ e. let i = inside_trimmed N h in number_kept N (table_of (element_at N v)) (own-table N.tables (element_at N v) (has v i) e) (own_read v i e)))

-- ---- the rules

module _ (N : Net) (wf : WellFormed N) where
  operand_old : (v p : ℕ) → p < operands (element_at (trimmed N) v) → p < operands (element_at N v)
  operand_old v p q = subst (λ (n : ℕ). p < n) (blind_trimmed N blind_operands v) q

  sourced_trimmed : Sourced (trimmed N)
  unfolding Sourced
  sourced_trimmed v p h q = rw (source-trimmed N v p) (rw (size-trimmed N) (wf.sourced v p (inside_trimmed N h) (operand_old v p q)))

  widths_trimmed : (v : ℕ) → v < size (trimmed N) → WidthsRight (trimmed N) v
  widths_trimmed v h =
      rw (element_trimmed N v) (rw (width_trimmed N v) (subst (ElementWidths (trimmed N).tables (over_table _ (element_at N v)) (width_at N v))
      (sym (fun_ext (λ p. width_trimmed N (source (trimmed N) v p) ∙ ap (width_at N) (source-trimmed N v p))))
      (widths_over N.tables (trimmed N).tables _ (element_at N v) (width_at N v) (λ p. width_at N (source N v p)) (own_kept N wf.has_table v (inside_trimmed N h)) (wf.widths v (inside_trimmed N h)))))

  read-trimmed : (v : ℕ) → v < size (trimmed N) → HasReader (trimmed N) v
  read-trimmed v h i o = by_reader_lem (wf.read v (inside_trimmed N h) (sym (blind_trimmed N blind_input v) ∙ i) (sym (blind_trimmed N blind_output v) ∙ o))
    where
      by_reader_lem : (x : ℕ) × Reads N x v → (x : ℕ) × Reads (trimmed N) x v
      by_reader_lem (x, r) = (
        x,
        record {
          operand = r.operand;
          inside = rw (size-trimmed N) r.inside;
          used = subst (λ (n : ℕ). r.operand < n) (sym (blind_trimmed N blind_operands x)) r.used;
          from = source-trimmed N x r.operand ∙ r.from;
        },
      )

  table_fits : (m : ℕ) → m < length (trimmed N).tables → TableFits (table_in (trimmed N).tables m)
  table_fits m h = let t = tables-trimmed N m h in subst TableFits (sym t.2) (wf.fields.tables_fit t.0 t.1.low)

  -- THE THEOREM
  pub well_formed_trimmed : WellFormed (trimmed N)
  well_formed_trimmed = record {
    fields = record {
      bounds = record { nodes = rw (size-trimmed N) wf.fields.bounds.nodes };
      tables_fit = table_fits;
      width_low = λ v h. rw (width_trimmed N v) (wf.fields.width_low v (inside_trimmed N h));
      width_high = λ v h. rw (width_trimmed N v) (wf.fields.width_high v (inside_trimmed N h));
      word_fits = λ v h. rw (width_trimmed N v) (rw (element_trimmed N v) (fits_over _ (element_at N v) (width_at N v) (wf.fields.word_fits v (inside_trimmed N h))));
    };
    sourced = sourced_trimmed;
    outputs_unread = λ v p h q. rw (source-trimmed N v p) (blind_trimmed N blind_output (source N v p) ∙ wf.outputs_unread v p (inside_trimmed N h) (operand_old v p q));
    has_table = has_trimmed N wf.has_table;
    widths = widths_trimmed;
    read = read-trimmed;
    no_loop = λ v w. wf.no_loop v (through_old in_clock blind_clock N w);
    no_ring = λ v w. wf.no_ring v (through_old in_registers blind_registers N w);
  }
