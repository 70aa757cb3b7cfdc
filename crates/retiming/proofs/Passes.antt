-- The rewritten netlist passes the checks 4 to 10. Assumes nothing.
use Rattle.std.specs.Prelude.{◌≡◌, Bool, true, get_or}
use Rattle.std.proofs.Math.Path.{refl, sym, ap, subst}
use Rattle.std.proofs.Common.{ap₂, ◌∙◌, lit≤, pow_pos}
use Rattle.std.proofs.Math.Logic.{⊎_elim}
use Rattle.std.proofs.Math.Bool.{false}
use mathlib.Core.List.{List}
use Prim.Native.Nat.{ℕ, zero, suc, ◌+◌, ◌-◌, ◌^◌, ◌≤◌, ◌<◌, zero-le, suc-le-suc}
use Rattle.std.proofs.Math.Nat.{not-suc-le-zero}
use native.Mathlib.Omega.{arith}
use Rattle.std.proofs.Math.ListN.{length}
use Rattle.std.proofs.Math.Dec.{lit<}
use Rattle.netlist.specs.declared.Element.{Element}
use Rattle.netlist.specs.declared.Element.TheVariants.{Input, Output, Register, Async, Clocked, Gate}
use Rattle.netlist.specs.declared.Node.{Node}
use Rattle.lists.specs.Lists.{one, has}
use Rattle.lists.proofs.BelowLaws.{true_or_false, lt_or_le}
use Rattle.lists.proofs.DistinctLaws.{has_only}
use Rattle.netlist.specs.Net.{Table, Net, size, node_at, element_at, width_at, source, operands, is_register, is_input, is_output, is_memory, is_async, in_clock, in_registers, Behaves, Sourced, RankedIn}
use Rattle.netlist.specs.Reach.{Reads}
use Rattle.retiming.specs.Rewrite.{Timing, old_on, Place, Entry, Reg, own_here, root_in, root, memory_at, count_on, new_tables, new_table, reset_word, copy_on, copies, along, new_element}
use Rattle.retiming.specs.Gates.{Spot, Old, One, Chain, Shown, Pick, first_on, shown_on, chain_length, spots, spot_number, picked, chained, spot_node, gated_with}
use Rattle.netlist.proofs.Rank.{no_loop}
use Rattle.behaviour.proofs.Fits.{rom_widths}
use Rattle.netlist.specs.Checks.{ElementWidths, Fits, HasTable, table_in, TableFits, Bounds, WellFormed}
use Rattle.retiming.proofs.Elements.{register_no_port}
use Rattle.retiming.proofs.Wires.{delay, width_root}
use Rattle.retiming.specs.Layout.{Stands}
use Rattle.retiming.proofs.LayoutLaws.{along_reg, along-end, stays_is, stays_if, copy_none}
use Rattle.retiming.specs.GatesLayout.{no_spot, SpotSound, Steered}
use Rattle.retiming.proofs.GatesLayout.{picked-gate, picked_wire, steered, shown_range}
use Rattle.retiming.specs.Candidate.{Retimes, sources}
use Rattle.retiming.proofs.Candidate.{word_before, word_after, node_numbered, source-new, used_new, operands-new, count_rom, width_along, width_picked}
use Rattle.retiming.proofs.New.{From, from, place_reads, at_node, placed_rank, new_sourced, new-rank, new_ranked, steer_sound}
use Rattle.retiming.proofs.GatesNumbers.{number_of_spot}
use Rattle.retiming.proofs.Rules.{SizedAlike, widths_new, fits-new, table-new, input_new, output_new, register_new, registers_fit}
use Rattle.retiming.proofs.Standing.{Wanted, wanted, Wire, wire_from, plain_copies, stands_some}

-- ---- the new nodes

module _ (N : Net) (f : Timing) (wf : WellFormed N) (ok : Retimes N f) (jns Z : ℕ → ℕ → ℕ) (hZ : Behaves N jns Z) (fitZ : (t v : ℕ) → v < size N → Z t v < 2 ^ width_at N v) where
  source_at : (x p : ℕ) → x < size N → p < operands (element_at N x) → source N x p < size N
  unfolding Sourced
  source_at x p h q = wf.sourced x p h q

  reset_fits : (x p j : ℕ) → x < size N → p < operands (element_at N x) → reset_word N f Z x p j < 2 ^ width_at N (source N x p)
  unfolding reset_word
  reset_fits x p j h q =
      ⊎_elim (λ l. rw (word_before f.origin Z (j + f.lead x) (source N x p) l) (pow_pos (width_at N (source N x p))))
      (λ l. rw (word_after f.origin Z (j + f.lead x) (source N x p) l) (fitZ ((j + f.lead x) - f.origin) (source N x p) (source_at x p h q))) (lt_or_le (j + f.lead x) f.origin)

  copy_fits : (x p : ℕ) → x < size N → p < operands (element_at N x) → copy_on N f Z x p < 2 ^ width_at N (source N x p)
  unfolding copy_on
  copy_fits x p h q =
      ⊎_elim (λ t. rw t (reset_fits x p (count_on N f Z x p) h q)) (λ t. rw t (pow_pos (width_at N (source N x p)))) (true_or_false (memory_at N (root N (source N x p))))

  spot-fits : (sp : Spot) → SpotSound N f Z sp → Fits (spot_node N f Z sp).element (spot_node N f Z sp).width
  unfolding spot_node memory_at
  spot-fits (Old (Entry u c)) s = fits-new (element_at N u) (new_table N f Z u) c (width_at N u) (wf.fields.word_fits u s.inside) (λ r. by_wanted (wanted N f Z u c r s.copy))
    where
      by_wanted : Wanted N f Z u c → c < 2 ^ width_at N u
      by_wanted w =
          rw w.word (subst (λ (k : ℕ). copy_on N f Z w.reader w.operand < 2 ^ k)
          (sym (width_root N wf.sourced (registers_fit N wf) (source N w.reader w.operand) (source_at w.reader w.operand w.inside w.used)) ∙ ap (width_at N) w.from)
          (copy_fits w.reader w.operand w.inside w.used))
  spot-fits (Old (Reg x c p j)) s = reset_fits x p j s.0.inside s.1
  spot-fits One s = lit< tt
  spot-fits (Chain i) s = lit< tt
  spot-fits (Shown x c p k) s = reset_fits x p (first_on N f Z x + k) s.0.inside s.1
  spot-fits (Pick x c p k) s = tt

  spot_width : (P : ℕ → Type 0) → P 1 → ((v : ℕ) → v < size N → P (width_at N v)) → (sp : Spot) → SpotSound N f Z sp → P (spot_node N f Z sp).width
  unfolding spot_node
  spot_width P bit h (Old (Entry u c)) s = h u s.inside
  spot_width P bit h (Old (Reg x c p j)) s = h (source N x p) (source_at x p s.0.inside s.1)
  spot_width P bit h One s = bit
  spot_width P bit h (Chain i) s = bit
  spot_width P bit h (Shown x c p k) s = h (source N x p) (source_at x p s.0.inside s.1)
  spot_width P bit h (Pick x c p k) s = h (source N x p) (source_at x p s.0.inside s.1)

  -- the new table of a memory
  sized_new : (u : ℕ) → u < size N → is_memory (element_at N u) ≡ true → SizedAlike N.tables (new_tables N f Z) (element_at N u) (new_table N f Z u)
  unfolding new_tables new_table
  sized_new u h e = record {
    there = (rom_widths N.tables (element_at N u) (width_at N u) (λ p. width_at N (source N u p)) e (wf.widths u h) (wf.has_table u h)).0;
    bits = refl;
    wide = refl;
  }

  spot-table : (sp : Spot) → SpotSound N f Z sp → HasTable (new_tables N f Z) (spot_node N f Z sp).element
  unfolding spot_node
  spot-table (Old (Entry u c)) s = table-new (new_tables N f Z) (element_at N u) (new_table N f Z u) c (λ e. (sized_new u s.inside e).there)
  spot-table (Old (Reg x c p j)) s = tt
  spot-table One s = tt
  spot-table (Chain i) s = tt
  spot-table (Shown x c p k) s = tt
  spot-table (Pick x c p k) s = tt

  width_at_lem : (sp : Spot) → SpotSound N f Z sp → width_at (gated_with N f Z) (spot_number N f Z sp) ≡ (spot_node N f Z sp).width
  unfolding width_at
  width_at_lem sp s = ap (λ (n : Node). n.width) (node_numbered N f Z sp s)

  chained_width : (i : ℕ) → i < chain_length N f Z → width_at (gated_with N f Z) (spot_number N f Z (chained N f Z i)) ≡ 1
  unfolding chained spot_node
  chained_width zero l = width_at_lem One l
  chained_width (suc i) l = width_at_lem (Chain i) (omega arith)

  spot_widths : (sp : Spot) → SpotSound N f Z sp
      → ElementWidths (new_tables N f Z) (spot_node N f Z sp).element (spot_node N f Z sp).width (λ p. width_at (gated_with N f Z) (get_or (spot_node N f Z sp).sources p 0))
  unfolding spot_node sources
  spot_widths (Old (Entry u c)) s =
      widths_new (width_at N u) (λ p. width_at N (source N u p)) (λ p. width_at (gated_with N f Z) (sources N f Z u c p)) N.tables (new_tables N f Z) (element_at N u) (new_table N f Z u) c
      (λ p q. sym (ap (width_at (gated_with N f Z)) (source-new N f Z u c p q) ∙ width_picked N f ok jns jns Z Z hZ hZ u c p s (used_new N f Z u c p q) 0)) (sized_new u s.inside) (wf.widths u s.inside)
  spot_widths (Old (Reg x c p j)) (s, q, l) = width_along N f ok jns jns Z Z hZ hZ x c p s q (suc j)
  spot_widths One s = tt
  spot_widths (Chain i) l = chained_width i l
  spot_widths (Shown x c p k) s = tt
  spot_widths (Pick x c p k) (s, q, l) =
      (width_at_lem (Chain (first_on N f Z x + k)) (steer_sound N f Z ok x c p k s q l), width_picked N f ok jns jns Z Z hZ hZ x c p s q (suc k), width_at_lem (Shown x c p k) (s, q, l))

  -- ---- 6: no output port is a source

  root-unread : (k s : ℕ) → s < size N → is_output (element_at N s) ≡ false → is_output (element_at N (root_in N k s)) ≡ false
  unfolding root_in
  root-unread zero s h e = e
  root-unread (suc k) s h e =
      ⊎_elim
      (λ t. let q : 0 < operands (element_at N s) = omega (arith, (register_no_port (element_at N s) t).2) in
      rw t (root-unread k (source N s 0) (source_at s 0 h q) (wf.outputs_unread s 0 h q)))
      (λ t. rw t e) (true_or_false (is_register (element_at N s)))

  along-unread : (x c p j : ℕ) → Stands N f Z x c → p < operands (element_at N x) → is_output (spot_node N f Z (Old (along N f Z x c p j))).element ≡ false
  unfolding spot_node root
  along-unread x c p j s q =
      ⊎_elim (λ l. rw (along_reg N f Z x c p j l) refl)
      (λ l. rw (along-end N f Z x c p j l)
      (output_new (element_at N (root N (source N x p))) (new_table N f Z (root N (source N x p))) (copy_on N f Z x p) ∙ root-unread (size N) (source N x p) (source_at x p s.inside q) (wf.outputs_unread x p s.inside q)))
      (lt_or_le j (count_on N f Z x p))

  picked-unread : (x c p k : ℕ) → Stands N f Z x c → p < operands (element_at N x) → is_output (spot_node N f Z (picked N f Z x c p k)).element ≡ false
  unfolding spot_node
  picked-unread x c p k s q =
      ⊎_elim (λ l. rw (picked-gate N f Z x c p k l) refl) (λ l. rw (picked_wire N f Z x c p k l) (along-unread x c p 0 s q)) (lt_or_le k (shown_on N f Z x p))

  chained-unread : (i : ℕ) → is_output (spot_node N f Z (chained N f Z i)).element ≡ false
  unfolding spot_node chained
  chained-unread zero = refl
  chained-unread (suc i) = refl

  spot-unread : (sp : Spot) (s : SpotSound N f Z sp) (p : ℕ) (q : p < operands (spot_node N f Z sp).element) → is_output (spot_node N f Z (from N f Z ok sp s p q).spot).element ≡ false
  unfolding spot_node from
  spot-unread (Old (Entry u c)) s p q = picked-unread u c p 0 s (used_new N f Z u c p q)
  spot-unread (Old (Reg x c p j)) (s, q, l) zero k = along-unread x c p (suc j) s q
  spot-unread (Old (Reg x c p j)) (s, q, l) (suc r) k = absurd (omega arith)
  spot-unread One s p k = absurd (not-suc-le-zero k)
  spot-unread (Chain i) l zero k = chained-unread i
  spot-unread (Chain i) l (suc r) k = absurd (omega arith)
  spot-unread (Shown x c p k) s r l = absurd (not-suc-le-zero l)
  spot-unread (Pick x c p k) (s, q, l) zero h = refl
  spot-unread (Pick x c p k) (s, q, l) (suc zero) h = picked-unread x c p (suc k) s q
  spot-unread (Pick x c p k) (s, q, l) (suc (suc zero)) h = refl
  spot-unread (Pick x c p k) (s, q, l) (suc (suc (suc r))) h = absurd (omega arith)

  new-unread : (i p : ℕ) → i < size (gated_with N f Z) → p < operands (element_at (gated_with N f Z) i) → is_output (element_at (gated_with N f Z) (source (gated_with N f Z) i p)) ≡ false
  unfolding element_at source
  new-unread i p h q =
      at_node N f Z ok (λ i sp n. p < operands n.element → is_output (element_at (gated_with N f Z) (get_or n.sources p 0)) ≡ false)
      (λ i k s l. let r : From N f Z ok (get_or (spots N f Z) i no_spot) p = from N f Z ok (get_or (spots N f Z) i no_spot) s p l in
      rw r.number (ap (λ (n : Node). is_output n.element) (node_numbered N f Z r.spot r.sound) ∙ spot-unread (get_or (spots N f Z) i no_spot) s p l)) i h q

  -- ---- 8: everything that is no port has a reader

  abbrev Read : Spot → Type 0
  Read sp = (y : ℕ) × Reads (gated_with N f Z) y (spot_number N f Z sp)

  reads_new : (sp : Spot) → SpotSound N f Z sp → (p : ℕ) → p < operands (spot_node N f Z sp).element → (to : Spot) → get_or (spot_node N f Z sp).sources p 0 ≡ spot_number N f Z to → Read to
  reads_new sp s p q to e = (spot_number N f Z sp, place_reads N f Z ok sp s p q to e)

  -- the gate before the k-th, or the node, reads it
  reader_picked : (x c p k : ℕ) → Stands N f Z x c → p < operands (element_at N x) → k ≤ shown_on N f Z x p → Read (picked N f Z x c p k)
  unfolding spot_node sources
  reader_picked x c p zero s q l =
      let k : p < operands (new_element (element_at N x) (new_table N f Z x) c) = subst (λ (n : ℕ). p < n) (sym (operands-new (element_at N x) (new_table N f Z x) c)) q in
      reads_new (Old (Entry x c)) s p k (picked N f Z x c p 0) (source-new N f Z x c p k)
  reader_picked x c p (suc k) s q l = reads_new (Pick x c p k) (s, q, l) 1 (lit< tt) (picked N f Z x c p (suc k)) refl

  -- the place before the j-th of a wire reads it
  reader_along : (x c p j : ℕ) → Stands N f Z x c → p < operands (element_at N x) → j ≤ count_on N f Z x p → Read (Old (along N f Z x c p j))
  unfolding spot_node spot_number
  reader_along x c p zero s q l = subst Read (picked_wire N f Z x c p (shown_on N f Z x p) (omega arith)) (reader_picked x c p (shown_on N f Z x p) s q (omega arith))
  reader_along x c p (suc j) s q l = reads_new (Old (Reg x c p j)) (s, q, l) 0 (lit< tt) (Old (along N f Z x c p (suc j))) refl

  -- the wire that a node with reset word c comes from
  wanted_any : (u c : ℕ) → Stands N f Z u c → is_input (element_at N u) ≡ false → is_output (element_at N u) ≡ false → Wanted N f Z u c
  wanted_any u c s i o =
      ⊎_elim (λ t. wanted N f Z u c t s.copy) (λ t. plain t (wire_from N f ok u s.inside s.kept i o s.other)) (true_or_false (memory_at N u))
    where
      plain : memory_at N u ≡ false → Wire N f u → Wanted N f Z u c
      plain t w =
          let z : c ≡ 0 = (has_only c true 0 (subst (λ (l : List ℕ). has c l ≡ true) (plain_copies N f Z ok u (stays_if N f Z u s.other s.kept) t) s.copy)).1 in
          record {
            reader = w.reader;
            operand = w.operand;
            inside = w.inside;
            staying = stays_if N f Z w.reader w.other w.kept;
            used = w.used;
            from = w.from;
            word = z ∙ sym (copy_none N f Z w.reader w.operand (subst (λ (k : ℕ). memory_at N k ≡ false) (sym w.from) t));
          }

  entry_read : (u c : ℕ) → Stands N f Z u c → Wanted N f Z u c → Read (Old (Entry u c))
  entry_read u c s w =
      let a = stays_is N f Z w.reader w.staying in
      let r = stands_some N f Z ok w.reader w.inside a.0 a.1 in
      let e : along N f Z w.reader r.0 w.operand (count_on N f Z w.reader w.operand) ≡ Entry u c
      = along-end N f Z w.reader r.0 w.operand (count_on N f Z w.reader w.operand) (omega arith) ∙ ap₂ Entry w.from (sym w.word) in
      subst (λ (pl : Place). Read (Old pl)) e (reader_along w.reader r.0 w.operand (count_on N f Z w.reader w.operand) r.1 w.used (omega arith))

  -- the chain's last register steers a gate
  last_read : (i : ℕ) → suc i ≡ chain_length N f Z → Steered N f Z → Read (Chain i)
  unfolding spot_node
  last_read i e w =
      let a = stays_is N f Z w.reader w.staying in
      let r = stands_some N f Z ok w.reader w.inside a.0 a.1 in
      let k : ℕ = shown_on N f Z w.reader w.operand - 1 in
      let n : first_on N f Z w.reader + k ≡ i = omega (arith, w.shown, w.length_is, shown_range N f Z w.reader w.operand w.shown) in
      reads_new (Pick w.reader r.0 w.operand k) (r.1, w.used, omega (arith, w.shown)) 0 (lit< tt) (Chain i) (ap (λ (m : ℕ). spot_number N f Z (Chain m)) n)

  chain_read : (i : ℕ) → i < chain_length N f Z → Read (Chain i)
  unfolding spot_node chained
  chain_read i l =
      ⊎_elim (λ m. reads_new (Chain (suc i)) m 0 (lit< tt) (Chain i) refl) (λ m. last_read i (omega arith) (steered N f Z (omega arith))) (lt_or_le (suc i) (chain_length N f Z))

  spot-read : (sp : Spot) → SpotSound N f Z sp → is_input (spot_node N f Z sp).element ≡ false → is_output (spot_node N f Z sp).element ≡ false → Read sp
  unfolding spot_node chained
  spot-read (Old (Entry u c)) s i o = entry_read u c s (wanted_any u c s (sym (input_new (element_at N u) (new_table N f Z u) c) ∙ i) (sym (output_new (element_at N u) (new_table N f Z u) c) ∙ o))
  spot-read (Old (Reg x c p j)) (s, q, l) i o = subst (λ (pl : Place). Read (Old pl)) (along_reg N f Z x c p j l) (reader_along x c p j s q (omega arith))
  spot-read One l i o = reads_new (Chain 0) l 0 (lit< tt) One refl
  spot-read (Chain k) l i o = chain_read k l
  spot-read (Shown x c p k) s i o = reads_new (Pick x c p k) s 2 (lit< tt) (Shown x c p k) refl
  spot-read (Pick x c p k) (s, q, l) i o = subst Read (picked-gate N f Z x c p k l) (reader_picked x c p k s q (omega arith))

  -- ---- a clocked ROM that is not late, and a ROM of positive lead, needs one reset word only

  copy_word : (x c p : ℕ) → Stands N f Z x c → (q : p < operands (element_at N x)) → memory_at N (root N (source N x p)) ≡ true
      → f.origin < own_here N (root N (source N x p)) + f.lead (root N (source N x p))
      → copy_on N f Z x p ≡ Z ((own_here N (root N (source N x p)) + f.lead (root N (source N x p))) - suc f.origin) (root N (source N x p))
  unfolding copy_on reset_word old_on
  copy_word x c p s q t l =
      rw t (word_after f.origin Z (count_on N f Z x p + f.lead x) (source N x p) (omega (arith, count_rom N f Z ok x c p s q t))
      ∙ ap (λ (k : ℕ). Z k (source N x p)) (omega (arith, count_rom N f Z ok x c p s q t))
      ∙ delay N ok.sourced jns Z hZ (source N x p) (source_at x p s.inside q) ((own_here N (root N (source N x p)) + f.lead (root N (source N x p))) - suc f.origin))

  pub one_reset_word : (u c : ℕ) → memory_at N u ≡ true → f.origin < own_here N u + f.lead u → has c (copies N f Z u) ≡ true → c ≡ Z ((own_here N u + f.lead u) - suc f.origin) u
  one_reset_word u c t l e =
      let w : Wanted N f Z u c = wanted N f Z u c t e in
      let a = stays_is N f Z w.reader w.staying in
      let r = stands_some N f Z ok w.reader w.inside a.0 a.1 in
      w.word ∙ subst (λ (k : ℕ). memory_at N k ≡ true → f.origin < own_here N k + f.lead k → copy_on N f Z w.reader w.operand ≡ Z ((own_here N k + f.lead k) - suc f.origin) k) w.from
      (copy_word w.reader r.0 w.operand r.1 w.used) t l

  -- ---- 10: a wire's registers, and the chain's, lead back to what is none

  place_ring : Place → ℕ
  place_ring (Entry u c) = 0
  place_ring (Reg x c p j) = suc (count_on N f Z x p - j)

  ring_rank : Spot → ℕ
  ring_rank (Old pl) = place_ring pl
  ring_rank One = 0
  ring_rank (Chain i) = suc i
  ring_rank (Shown x c p k) = 0
  ring_rank (Pick x c p k) = 0

  along_ring : (x c p j : ℕ) → j < count_on N f Z x p → place_ring (along N f Z x c p (suc j)) < suc (count_on N f Z x p - j)
  unfolding place_ring
  along_ring x c p j l =
      ⊎_elim (λ k. rw (along_reg N f Z x c p (suc j) k) (omega arith)) (λ k. rw (along-end N f Z x c p (suc j) k) (suc-le-suc zero-le)) (lt_or_le (suc j) (count_on N f Z x p))

  chained_ring : (i : ℕ) → ring_rank (chained N f Z i) < suc i
  unfolding ring_rank chained
  chained_ring zero = suc-le-suc zero-le
  chained_ring (suc i) = omega arith

  spot_ring : (sp : Spot) (p : ℕ) → p < one (is_register (spot_node N f Z sp).element) → (q : p < operands (spot_node N f Z sp).element) (s : SpotSound N f Z sp) → ring_rank (from N f Z ok sp s p q).spot < ring_rank sp
  unfolding spot_node ring_rank place_ring from
  spot_ring (Old (Entry u c)) p w q s = absurd (none (register_new (element_at N u) (new_table N f Z u) c ∙ s.other) w)
    where
      none : {b : Bool} → b ≡ false → p < one b → ⊥
      none e l = not-suc-le-zero (rw e at l)
  spot_ring (Old (Reg x c p j)) zero w k (s, q, l) = along_ring x c p j l
  spot_ring (Old (Reg x c p j)) (suc r) w k (s, q, l) = absurd (omega arith)
  spot_ring One p w q s = absurd (not-suc-le-zero w)
  spot_ring (Chain i) zero w q s = chained_ring i
  spot_ring (Chain i) (suc r) w q s = absurd (omega arith)
  spot_ring (Shown x c p k) r w q s = absurd (not-suc-le-zero w)
  spot_ring (Pick x c p k) r w q s = absurd (not-suc-le-zero w)

  new_ring : RankedIn in_registers (gated_with N f Z) (λ i. ring_rank (get_or (spots N f Z) i no_spot))
  new_ring = placed_rank N f Z ok in_registers ring_rank spot_ring

  -- ---- all together

  each : (P : Node → Type 0) → ((sp : Spot) → SpotSound N f Z sp → P (spot_node N f Z sp)) → (i : ℕ) → i < size (gated_with N f Z) → P (node_at (gated_with N f Z) i)
  each P h i l = at_node N f Z ok (λ i sp n. P n) (λ i k s. h (get_or (spots N f Z) i no_spot) s) i l

  new-read : (i : ℕ) → i < size (gated_with N f Z) → is_input (element_at (gated_with N f Z) i) ≡ false → is_output (element_at (gated_with N f Z) i) ≡ false
      → (y : ℕ) × Reads (gated_with N f Z) y i
  unfolding element_at
  new-read i h a b =
      at_node N f Z ok (λ i sp n. is_input n.element ≡ false → is_output n.element ≡ false → (y : ℕ) × Reads (gated_with N f Z) y i)
      (λ i k s a b. subst (λ (n : ℕ). (y : ℕ) × Reads (gated_with N f Z) y n) (number_of_spot N f Z i k) (spot-read (get_or (spots N f Z) i no_spot) s a b)) i h a b

  same_tables : (gated_with N f Z).tables ≡ new_tables N f Z
  unfolding gated_with
  same_tables = refl

  tables_fit_new : (m : ℕ) → m < length (new_tables N f Z) → TableFits (table_in (new_tables N f Z) m)
  unfolding new_tables
  tables_fit_new = wf.fields.tables_fit

  pub new_well_formed : Bounds (gated_with N f Z) → WellFormed (gated_with N f Z)
  unfolding element_at width_at source
  new_well_formed bounds = record {
    fields = record {
      bounds = bounds;
      tables_fit = subst (λ (ts : List Table). (m : ℕ) → m < length ts → TableFits (table_in ts m)) (sym same_tables) tables_fit_new;
      width_low = each (λ n. 1 ≤ n.width) (spot_width (λ w. 1 ≤ w) (lit≤ tt) wf.fields.width_low);
      width_high = each (λ n. n.width ≤ 16) (spot_width (λ w. w ≤ 16) (lit≤ tt) wf.fields.width_high);
      word_fits = each (λ n. Fits n.element n.width) spot-fits;
    };
    sourced = new_sourced N f Z ok;
    outputs_unread = new-unread;
    has_table = subst (λ (ts : List Table). (v : ℕ) → v < size (gated_with N f Z) → HasTable ts (element_at (gated_with N f Z) v)) (sym same_tables)
        (each (λ n. HasTable (new_tables N f Z) n.element) spot-table);
    widths = subst (λ (ts : List Table). (v : ℕ) → v < size (gated_with N f Z)
        → ElementWidths ts (element_at (gated_with N f Z) v) (width_at (gated_with N f Z) v) (λ p. width_at (gated_with N f Z) (source (gated_with N f Z) v p))) (sym same_tables)
        (each (λ n. ElementWidths (new_tables N f Z) n.element n.width (λ p. width_at (gated_with N f Z) (get_or n.sources p 0))) spot_widths);
    read = new-read;
    no_loop = λ v w. no_loop in_clock (gated_with N f Z) (new-rank N f Z ok) (new_ranked N f Z ok) w;
    no_ring = λ v w. no_loop in_registers (gated_with N f Z) (λ i. ring_rank (get_or (spots N f Z) i no_spot)) new_ring w;
  }

  -- ---- no asynchronous ROM

  new_no_async : (e : Element) (m c : ℕ) → is_async (new_element e m c) ≡ false
  new_no_async Input m c = refl
  new_no_async Output m c = refl
  new_no_async (Register r) m c = refl
  new_no_async (Async k) m c = refl
  new_no_async (Clocked k r) m c = refl
  new_no_async (Gate o) m c = refl

  spot_clocked : (sp : Spot) → is_async (spot_node N f Z sp).element ≡ false
  unfolding spot_node
  spot_clocked (Old (Entry u c)) = new_no_async (element_at N u) (new_table N f Z u) c
  spot_clocked (Old (Reg x c p j)) = refl
  spot_clocked One = refl
  spot_clocked (Chain i) = refl
  spot_clocked (Shown x c p k) = refl
  spot_clocked (Pick x c p k) = refl

  pub new_clocked : (i : ℕ) → i < size (gated_with N f Z) → is_async (element_at (gated_with N f Z) i) ≡ false
  unfolding element_at
  new_clocked i h = each (λ n. is_async n.element ≡ false) (λ sp s. spot_clocked sp) i h
