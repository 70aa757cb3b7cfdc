-- THE THEOREM: nodes that are listed and placed, lines that are laid and ports that are put are the schedule. Assumes nothing.
use Rattle.std.specs.Prelude.{◌≡◌, true, List, ℕ, ◌+◌, ◌≤◌, ◌<◌, length, get_or}
use Rattle.std.proofs.Common.{sym, ap, subst, ◌∙◌, zero-add, arith}
use Rattle.std.proofs.lemmas.Bool.{false≢true}
use Rattle.lists.proofs.BelowLaws.{count_below-lt}
use Rattle.lists.specs.SelectLaws.{Member}
use Rattle.netlist.specs.declared.Element.{Element}
use Rattle.netlist.specs.declared.Element.TheVariants.{Input, Output, Register, Async, Clocked, Gate}
use Rattle.netlist.specs.Net.{Net, size, element_at, width_at, source, operands, in_clock, is_output}
use Rattle.netlist.proofs.NodeLaws.{few_operands}
use Rattle.netlist.specs.Checks.{WellFormed}
use Rattle.circuit.specs.Code.{code_of}
use Rattle.circuit.specs.Order.{Stands, Complete}
use Rattle.evaluate.specs.Rows.{row_test}
use Rattle.evaluate.specs.Clock.{Inside}
use Rattle.evaluate.specs.declared.Row.TheVariants.{Inputs, Outputs, State}
use Rattle.schedule.specs.Lines.{schedule_words, outputs_from, part, place_on, held_on, node_on, asked_by, Holds, Line, ReadsBelow, is_inner, InnerLine, Scheduled}
use Rattle.schedule.specs.Listed.{Listed}
use Rattle.schedule.specs.ListedLaws.{few_lines, few_outputs, listed_member, member_listed, reads, inner_node, lines_inside}
use Rattle.schedule.specs.Places.{PlacedFrom, placed_reads}
use Rattle.schedule.specs.Laid.{Laid, LaidFrom, laid_kept}
use Rattle.schedule.specs.Ports.{PortsPut}
use Rattle.schedule.specs.declared.Sizes.{Sizes}

-- an output port has an operand
port_reads : (e : Element) → is_output e ≡ true → 0 < operands e
port_reads Input h = absurd (false≢true h)
port_reads Output h = omega arith
port_reads (Register r) h = omega arith
port_reads (Async m) h = omega arith
port_reads (Clocked m r) h = omega arith
port_reads (Gate o) h = absurd (false≢true h)

module _ {N : Net} {order nodes places before l : List ℕ} {z : Sizes}
    (wf : WellFormed N)
    (within : Inside N)
    (whole : Complete in_clock N order)
    (listed : Listed N order nodes z)
    (near : size N ≤ length places)
    (placed : PlacedFrom nodes places z.lines 0)
    (laid : LaidFrom N nodes places before z.lines 0)
    (room : schedule_words ≤ length before)
    (put : PortsPut N nodes places before l z.lines z.outputs)
  where
    few : z.lines ≤ 2048
    few = omega (arith, few_lines listed, wf.fields.bounds.nodes)

    all : LaidFrom N nodes places l z.lines 0
    all = laid_kept laid l (λ w a b. put.lines w (omega (arith, few)))

    line : (i : ℕ) → i < z.lines → Laid N places (part l i) (get_or nodes i 0)
    line i h = all.lines i (omega arith) h

    node : (i : ℕ) → i < z.lines → node_on l i ≡ get_or nodes i 0
    node i h = (line i h).node

    inside : (i : ℕ) → i < z.lines → get_or nodes i 0 < size N
    inside i h = lines_inside listed wf whole i h

    as_line : (i : ℕ) → i < z.lines → Line N l i
    as_line i h =
        let r = line i h in
        let back : get_or nodes i 0 ≡ node_on l i = sym r.node in
        record {
          inside = omega (arith, back, inside i h);
          coded = r.coded ∙ ap (λ (v : ℕ). code_of (element_at N v)) back;
          wide = r.wide ∙ ap (λ (v : ℕ). asked_by (element_at N v) (width_at N v) (width_at N (source N v 1))) back;
          held = subst (λ (v : ℕ). Holds (element_at N v) (held_on l i)) back r.held;
          near = λ p k. omega (arith, r.placed p k, placed.near (source N (get_or nodes i 0) p) (omega (arith, within (get_or nodes i 0) p (inside i h) k)));
        }

    -- who stands below a bound is read there
    read_at : (b v : ℕ) → b ≤ z.lines → Stands nodes b v → (get_or places v 0 < b) × (node_on l (get_or places v 0) ≡ v)
    read_at b v h s = let r = placed_reads placed h s in (r.0, node (get_or places v 0) (omega (arith, r.0)) ∙ r.1)

    reads_below : (b i : ℕ) → b ≤ z.lines → i < z.lines → ((p : ℕ) → p < operands (element_at N (get_or nodes i 0)) → Stands nodes b (source N (get_or nodes i 0) p)) → ReadsBelow N l b i
    reads_below b i h k s =
        subst (λ (v : ℕ). (p : ℕ) → p < operands (element_at N v) → (place_on l i p < b) × (node_on l (place_on l i p) ≡ source N v p)) (sym (node i k))
        (λ p q. rw ((line i k).placed p (omega (arith, few_operands (element_at N (get_or nodes i 0))))) (read_at b (source N (get_or nodes i 0) p) h (s p q)))

    inner_line : (i : ℕ) → z.inputs + z.held ≤ i → i < z.lines → InnerLine N l i
    inner_line i low high =
        let r = inner_node listed wf whole i low high in
        record {
          line = as_line i high;
          inner = ap (λ (v : ℕ). is_inner (element_at N v)) (node i high) ∙ r.inner;
          behind = reads_below i i (omega arith) high r.before;
        }

    front : z.inputs + z.held ≤ z.lines
    front = omega (arith, listed.all_inner)

    port : (j : ℕ) → j < z.inputs → Member (row_test Inputs N) (size N) j (node_on l j)
    port j h =
        subst (Member (row_test Inputs N) (size N) j) (ap (λ (i : ℕ). get_or nodes i 0) (zero-add j) ∙ sym (node j (omega (arith, front))))
        (listed_member listed.ports (omega (arith, listed.all_ports)))

    holder : (j : ℕ) → j < z.held → Member (row_test State N) (size N) j (node_on l (z.inputs + j))
    holder j h =
        subst (Member (row_test State N) (size N) j) (sym (node (z.inputs + j) (omega (arith, front))))
        (listed_member listed.holders (omega (arith, listed.all_holders)))

    output : (j v : ℕ) → Member (row_test Outputs N) (size N) j v → (get_or l (outputs_from + j) 0 < z.lines) × (node_on l (get_or l (outputs_from + j) 0) ≡ source N v 0)
    output j v m =
        rw (put.each j (omega (arith, listed.all_outputs, count_below-lt (row_test Outputs N) v (size N) m.on m.low, m.place)), member_listed listed.outputs m)
        (read_at z.lines (source N v 0) (omega arith) (reads listed wf whole m.low (port_reads (element_at N v) m.on)))

    pub scheduled : Scheduled N l z
    scheduled = record {
      room = omega (arith, put.kept);
      few = few;
      front = front;
      ports = port;
      all_ports = listed.all_ports;
      holders = holder;
      all_holders = listed.all_holders;
      holder_lines = λ j h.
          let k : z.inputs + j < z.lines = omega (arith, front) in
          (as_line (z.inputs + j) k, reads_below z.lines (z.inputs + j) (omega arith) k (λ p q. reads listed wf whole (inside (z.inputs + j) k) q));
      inner_lines = inner_line;
      runs = λ i high. all.runs i (omega arith) high;
      few_outputs = omega (arith, few_outputs listed, wf.fields.bounds.nodes);
      all_outputs = listed.all_outputs;
      outputs = output;
    }
