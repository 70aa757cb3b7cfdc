-- What a register and a clocked ROM hold next, line by line. Assumes nothing.
use Rattle.std.specs.Prelude.{◌≡◌, true, List, ℕ, ◌+◌, ◌^◌, ◌≤◌, ◌<◌, length}
use Rattle.std.proofs.Math.Path.{sym, ap}
use Rattle.std.proofs.Common.{subst, ◌∙◌, arith, lit<}
use Rattle.std.proofs.Math.ListN.{get_or}
use Rattle.lists.proofs.BelowLaws.{count_below-le}
use Rattle.netlist.specs.Net.{no_table, spelled, Net, size, element_at, width_at, contents_at, is_memory}
use Rattle.netlist.specs.Checks.{WellFormed}
use Rattle.circuit.specs.Code.{table_or}
use Rattle.evaluate.specs.Rows.{row_test}
use Rattle.evaluate.specs.declared.Row.TheVariants.{State}
use Rattle.evaluate.specs.Coded.{register_holds, rom_holds, memory_asks, memory_gives}
use Rattle.evaluate.specs.Next.{holder_reads, next_same}
use Rattle.schedule.specs.declared.Sizes.{Sizes}
use Rattle.schedule.specs.Lines.{code_on, place_on, held_on, node_on, Scheduled}
use Rattle.stepping.specs.Step.{line_next, FitTo, OnHolder}

-- x is where it reads, and c its code
module _ {N : Net} {l ws : List ℕ} {i x c : ℕ} (t : OnHolder N l ws i) (p : x ≡ place_on l i 0) (k : c ≡ code_on l i) where
  abbrev v : ℕ
  v = node_on l i

  abbrev read : ℕ → ℕ
  read u = get_or ws (place_on l i u) 0

  pub next_register : c ≡ 2 → get_or ws x 0 ≡ line_next N l ws i
  unfolding line_next
  next_register h = ap (λ (u : ℕ). get_or ws u 0) p ∙ register_holds (contents_at N v) read (element_at N v) t.holds (sym t.line.coded ∙ sym k ∙ h)

  -- a clocked ROM: m is its table's number, a its address
  module _ {m a : ℕ} (wf : WellFormed N) (not : c ≡ 2 → ⊥) (q : m ≡ held_on l i) (e : a ≡ get_or ws x 0) where
    rom : (is_memory (element_at N v) ≡ true) × (get_or (contents_at N v) (read 0) 0 ≡ line_next N l ws i)
    unfolding line_next
    rom = rom_holds (contents_at N v) read (element_at N v) t.holds (λ h. not (k ∙ t.line.coded ∙ h))

    table : m ≡ table_or m (element_at N v)
    table = subst (λ (u : ℕ). u ≡ table_or u (element_at N v)) (sym q) (t.line.held.table rom.0)

    address : a ≡ read 0
    address = e ∙ ap (λ (u : ℕ). get_or ws u 0) p

    pub next_asks : (m < length N.tables) × (a < 2 ^ (get_or N.tables m no_table).bits)
    next_asks = memory_asks N v wf t.line.inside rom.0 table address t.fit

    pub next_rom : {w : ℕ} → w ≡ get_or (spelled (get_or N.tables m no_table)) a 0 → w ≡ line_next N l ws i
    next_rom g = memory_gives N v wf t.line.inside rom.0 table address g ∙ rom.1

-- ---- those of a schedule

module _ {N : Net} {l : List ℕ} {z : Sizes} (t : Scheduled N l z) where
  pub few_held : size N ≤ 1024 → z.held ≤ 1024
  few_held h = omega (arith, t.all_holders, count_below-le (row_test State N) (size N))

  module _ (j : ℕ) (h : j < z.held) where
    pub holder_near : place_on l (z.inputs + j) 0 < 2048
    holder_near = (t.holder_lines j h).0.near 0 (lit< tt)

    pub holder_line : (ws : List ℕ) → 2048 ≤ length ws → FitTo N l ws z.lines → OnHolder N l ws (z.inputs + j)
    holder_line ws space fit =
        let m = t.holders j h in
        let i = z.inputs + j in
        let b = (t.holder_lines j h).1 0 (holder_reads (element_at N (node_on l i)) m.on) in
        record {
          room = t.room;
          few = omega (arith, t.front, t.few);
          space = space;
          line = (t.holder_lines j h).0;
          holds = m.on;
          fit = subst (λ (u : ℕ). get_or ws (place_on l i 0) 0 < 2 ^ width_at N u) b.1 (fit (place_on l i 0) b.0);
        }

    -- it depends on the words at the places alone
    pub next_line_same : (ws us : List ℕ) → ((u : ℕ) → u < 2048 → get_or ws u 0 ≡ get_or us u 0) → line_next N l ws (z.inputs + j) ≡ line_next N l us (z.inputs + j)
    unfolding line_next
    next_line_same ws us same =
        let i = z.inputs + j in
        next_same (contents_at N (node_on l i)) (λ p. get_or ws (place_on l i p) 0) (λ p. get_or us (place_on l i p) 0) (element_at N (node_on l i))
        (λ y. same (place_on l i 0) holder_near)
