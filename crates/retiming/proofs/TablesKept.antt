-- Where every node stays, every table that is read stays read. So document 01's rewriting never has a table that no node reads: document 02, T-06. Assumes nothing.
use Rattle.std.specs.Prelude.{◌≡◌, refl, true, false, ℕ, ◌<◌}
use Rattle.std.proofs.Common.{sym, ◌∙◌}
use Rattle.std.proofs.Math.Path.{ap, subst}
use Rattle.std.proofs.lemmas.Bool.{false≢true}
use Rattle.netlist.specs.declared.Element.{Element}
use Rattle.netlist.specs.declared.Element.TheVariants.{Input, Output, Register, Async, Clocked, Gate}
use Rattle.netlist.specs.declared.Node.{Node}
use Rattle.netlist.specs.Net.{Net, element_at, table_of, is_register}
use Rattle.netlist.specs.Verdict.{reads_table}
use Rattle.netlist.specs.Checks.{WellFormed, TableHasReader, TablesRead}
use Rattle.behaviour.specs.Run.{zero_word}
use Rattle.retiming.specs.Leads.{closed_debt, port_debt}
use Rattle.retiming.specs.Rewrite.{Timing, Entry, new_tables, new_table, new_element, timing_by, timing, rewritten}
use Rattle.retiming.specs.Gates.{Old, spot_number, spot_node, gated_with}
use Rattle.retiming.proofs.GatesLayout.{spot-numbered}
use Rattle.retiming.specs.Candidate.{Retimes}
use Rattle.retiming.proofs.Candidate.{size-new, node_numbered}
use Rattle.retiming.proofs.Standing.{stands_some}
use Rattle.retiming.proofs.Retimed.{retimes, rewritten_is}

-- a ROM is no register, and reads its table whatever its reset word
rom_reads : (e : Element) (c m : ℕ) → reads_table e m ≡ true → (is_register e ≡ false) × (reads_table (new_element e (table_of e) c) m ≡ true)
rom_reads Input c m r = absurd (false≢true r)
rom_reads Output c m r = absurd (false≢true r)
rom_reads (Register q) c m r = absurd (false≢true r)
rom_reads (Async k) c m r = (refl, r)
rom_reads (Clocked k q) c m r = (refl, r)
rom_reads (Gate o) c m r = absurd (false≢true r)

module _ (N : Net) (f : Timing) (Z : ℕ → ℕ → ℕ) (ok : Retimes N f) (All-stay : (v : ℕ) → f.keeps v ≡ true) where
  pub tables_stay_read : TablesRead N → TablesRead (gated_with N f Z)
  unfolding gated_with new_tables element_at spot_node new_table
  tables_stay_read read m h = by_reader_lem (read m h)
    where
      by_reader_lem : TableHasReader N m → TableHasReader (gated_with N f Z) m
      by_reader_lem (v, l, r) =
          let s = stands_some N f Z ok v l (rom_reads (element_at N v) 0 m r).0 (All-stay v) in
          let at = spot_number N f Z (Old (Entry v s.0)) in (
            at,
            subst (λ (n : ℕ). at < n) (sym (size-new N f Z)) (spot-numbered N f Z (Old (Entry v s.0)) s.1).within,
            ap (λ (n : Node). reads_table n.element m) (node_numbered N f Z (Old (Entry v s.0)) s.1) ∙ (rom_reads (element_at N v) s.0 m r).1,
          )

-- THE THEOREM
pub rewritten-read : (N : Net) → WellFormed N → closed_debt N ≡ false → port_debt N ≡ false → TablesRead N → TablesRead (rewritten N)
unfolding timing timing_by
rewritten-read N wf debtless portless read =
    subst TablesRead (rewritten_is N wf debtless portless) (tables_stay_read N (timing N) (zero_word N) (retimes N wf debtless portless) (λ v. refl) read)
