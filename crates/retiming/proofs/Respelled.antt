-- Laws of what specs/Respelled.antt defines. Assumes nothing.
use Rattle.std.specs.Prelude.{◌≡◌, Bool, List, [], ◌∷◌, ◌++◌, ℕ, ltb, length}
use Rattle.std.proofs.Math.Path.{refl}
use Rattle.std.proofs.Common.{ap, ap₂, sym, ◌∙◌, append_assoc}
use Rattle.lists.specs.Lists.{concat_map}
use Rattle.netlist.specs.Net.{Table, Net, size, node_at, element_at, width_at, source}
use Rattle.netlist.specs.Reach.{reads_test}
use Rattle.netlist.specs.Field.{field}
use Rattle.netlist.specs.Verdict.{at_lowest, of_whole, verdict}
use Rattle.netlist.specs.File.{table_bytes, node_bytes, encode}
use Rattle.netlist.specs.Respelled.{Respelled, over}
use Rattle.netlist.proofs.Respelled.{respelled_is}
use Rattle.behaviour.specs.Run.{zero_word}
use Rattle.behaviour.proofs.Same.{zero_same}
use Rattle.behaviour.proofs.Respelled.{respelled_same}
use Rattle.retiming.specs.Leads.{async_here, register_here, asked, relax, leads_after, leads, lead, closed_debt, owing_port}
use Rattle.retiming.specs.Rewrite.{Timing, root_in, passed_in, root, passed, own_here, memory_at, stays, old_on, registers_on, count_on, new_tables, new_table, reset_word, copy_on, copies_at, copies_of, copies}
use Rattle.retiming.specs.Rewrite.{wires_of, wires_all, wire_places, wire_number, entries_of, regs_on, entry_places, reg_places, places, number_of, along, new_source, node_of, rewritten_with, timing, rewritten}
use Rattle.retiming.specs.Debt.{grown, debt_stages, debt_verdict}
use Rattle.retiming.specs.Respelled.{with_tables, behind_tables}

-- ---- leads and layout do not look at tables

module _ (N : Net) (us : List Table) where
  timing_over : timing N ≡ timing (over us N)
  unfolding timing leads leads_after relax asked reads_test async_here register_here element_at source node_at
  timing_over = refl

  closed_over : closed_debt N ≡ closed_debt (over us N)
  unfolding closed_debt leads leads_after relax asked reads_test async_here register_here element_at source node_at
  closed_over = refl

  owing_over : owing_port N ≡ owing_port (over us N)
  unfolding owing_port lead leads leads_after relax asked reads_test async_here register_here element_at source node_at
  owing_over = refl

  layout_over : (f : Timing) (Z : ℕ → ℕ → ℕ) → rewritten_with (over us N) f Z ≡ over us (rewritten_with N f Z)
  unfolding rewritten_with node_of new_source along number_of places reg_places entry_places wire_number wire_places wires_all wires_of regs_on entries_of copies copies_of copies_at copy_on reset_word new_table new_tables count_on registers_on old_on stays memory_at own_here passed root passed_in root_in element_at width_at source node_at
  layout_over f Z = refl

-- THE LAW, of netlists: the rewritten one is the other's over its own tables, and 11 to 13 come up alike
pub respelled_rewritten : {N M : Net} → Respelled N M → rewritten M ≡ over M.tables (rewritten N)
unfolding rewritten
respelled_rewritten {N} {M} r =
    ap (λ (Z : ℕ → ℕ → ℕ). rewritten_with M (timing M) Z) (sym (zero_same N M (respelled_same r)))
    ∙ ap (λ (P : Net). rewritten_with P (timing P) (zero_word N)) (sym (respelled_is r))
    ∙ ap (λ (f : Timing). rewritten_with (over M.tables N) f (zero_word N)) (sym (timing_over N M.tables))
    ∙ layout_over N M.tables (timing N) (zero_word N)

pub respelled_debt : {N M : Net} → Respelled N M → debt_verdict N ≡ debt_verdict M
unfolding debt_verdict debt_stages grown
respelled_debt {N} {M} r =
    ap₂ (λ (c : Bool) (q : ℕ → Bool). verdict (of_whole 11 (λ v. c) ∷ at_lowest 12 (size N) q ∷ of_whole 13 (λ v. grown (rewritten N)) ∷ []))
    (closed_over N M.tables ∙ ap closed_debt (respelled_is r)) (owing_over N M.tables ∙ ap owing_port (respelled_is r))
    ∙ ap₂ (λ (n m : ℕ). verdict (of_whole 11 (λ v. closed_debt M) ∷ at_lowest 12 n (owing_port M) ∷ of_whole 13 (λ v. ltb 1024 m) ∷ []))
    (ap length r.nodes) (sym (ap size (respelled_rewritten r)))

pub encode_parts : (N : Net) → encode N ≡ with_tables N.tables (behind_tables N)
unfolding encode
encode_parts N = ap (λ (l : List ℕ). field 1 (1 ∷ []) ++ l) (append_assoc (concat_map table_bytes N.tables) (concat_map node_bytes N.nodes) (field 4 []))

pub tables_kept : (N : Net) → (rewritten N).tables ≡ N.tables
unfolding rewritten rewritten_with new_tables
tables_kept N = refl
