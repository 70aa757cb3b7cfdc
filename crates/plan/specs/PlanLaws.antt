-- From the areas of each step to the plan. Assumes nothing.
use Rattle.std.specs.Prelude.{◌≡◌, refl, Bool, true, false, cond, ℕ, ◌+◌, ◌*◌, ◌/◌, ◌%◌, ◌≤◌, ◌<◌, length, replicate}
use Rattle.std.proofs.Common.{sym, ap₂, subst, ◌∙◌, not-suc-le-zero, arith, length-append}
use Rattle.std.proofs.Math.Path.{ap}
use Rattle.std.proofs.Math.Logic.{⊎_elim}
use mathlib.Core.List.{List}
use Rattle.std.proofs.Math.ListN.{get_or, get_or-replicate}
use Rattle.lists.proofs.Sections.{section-length, section_replicate}
use Rattle.lists.proofs.BelowLaws.{true_or_false, lt_or_le}
use Rattle.netlist.specs.Net.{Net, size}
use Rattle.behaviour.specs.Run.{zero_word}
use Rattle.retiming.specs.Rewrite.{Timing, Place, root, memory_at, count_on, copy_on, word_from, reset_word, entry_places, reg_places, places}
use Rattle.retiming.proofs.Candidate.{word_before, word_after}
use Rattle.first_clocks.specs.Wanted.{OfNodes, Taken}
use Rattle.wires.specs.Traced.{roots_in, passes_in}
use Rattle.wiring.specs.Wiring.{Ready, Timed, ends_in, froms_in, clocks_in, heads_in, Entered, count_from_lem, asked_clock, source_of, wire_at, last_clock, Wired, WiredTo, Copied}
use Rattle.wiring.specs.WiringLaws.{wire_inside, asked_before, asked-after, wired_none, wired_as}
use Rattle.wiring.specs.Links.{LinkedFrom, RomsLinked, linked_none, linked_as, roms_linked}
use Rattle.plan.specs.Entries.{Wants, AllPlaced}
use Rattle.plan.specs.EntriesLaws.{all_wanted}
use Rattle.plan.specs.Registers.{entry_count, row_before, wires_before, Planning, Laid, AllLaid}
use Rattle.plan.specs.RegistersRow.{regs_in_row}
use Rattle.plan.specs.Areas.{owners_in, words_in, late_in, firsts_in, sources_in}
use Rattle.plan.specs.Plan.{PlanLaid}

-- a word that was asked for, its clock counted from an origin; before that it is 0
pub taken_word : (N : Net) {clocks wanted before after : List ℕ} → Taken N clocks wanted before after → (k : ℕ) → k < length clocks → (o n : ℕ) → n < 65534 → get_or clocks k 0 ≡ asked_clock o n
    → get_or before k 0 ≡ 0 → get_or after k 0 ≡ word_from o (zero_word N) n (get_or wanted k 0)
taken_word N {wanted = wanted} t k h o n small e z =
    ⊎_elim (λ l. t.others k (omega (arith, e, asked_before l)) ∙ z ∙ sym (word_before o (zero_word N) n (get_or wanted k 0) l))
    (λ l. t.given k h (omega (arith, e, asked-after l)) ∙ ap (λ (i : ℕ). zero_word N i (get_or wanted k 0)) (e ∙ asked-after l) ∙ sym (word_after o (zero_word N) n (get_or wanted k 0) l))
    (lt_or_le n o)

-- ---- the wires

module _ {N : Net} {f : Timing} {leads roots passes ends froms clocks : List ℕ} (ready : Ready N f leads roots passes) (w : WiredTo N f ends froms clocks (3 * size N)) where
  small : size N ≤ 1024
  small = ready.formed.fields.bounds.nodes

  pub wires_of_nodes : length clocks ≡ 3072 → OfNodes N clocks froms
  wires_of_nodes l k h b = ⊎_elim inside (λ y. absurd (omega (arith, (w.ahead k y (omega arith)).never))) (lt_or_le k (3 * size N))
    where
      inside : k < 3 * size N → get_or froms k 0 < size N
      inside y = ⊎_elim wire (λ g. absurd (omega (arith, (w.gaps k y g).never))) (true_or_false (wire_at N f k))
        where
          wire : wire_at N f k ≡ true → get_or froms k 0 < size N
          wire g = omega (arith, (w.wires k y g).from, wire_inside N f ready.formed.sourced k y g)

  pub copies_made : {copied : List ℕ} → length clocks ≡ 3072 → Taken N clocks froms (replicate 3072 0) copied → Copied N f copied
  unfolding copy_on reset_word last_clock
  copies_made {copied} l t k h g = ⊎_elim rom other (true_or_false (memory_at N (root N (source_of N k))))
    where
      y : Wired N f ends froms clocks k
      y = w.wires k h g

      rom : memory_at N (root N (source_of N k)) ≡ true → get_or copied k 0 ≡ copy_on N f (zero_word N) (k / 3) (k % 3)
      rom m =
          taken_word N t k (omega arith) f.origin (last_clock N f k) y.early (y.rom m) (get_or-replicate 3072 k 0 0 (omega arith))
          ∙ ap₂ (word_from f.origin (zero_word N)) (ap (λ (n : ℕ). n + f.lead (k / 3)) (sym (count_from_lem N f (k / 3) (k % 3)))) y.from
          ∙ sym (ap (λ (b : Bool). cond b (reset_word N f (zero_word N) (k / 3) (k % 3) (count_on N f (zero_word N) (k / 3) (k % 3))) 0) m)

      other : memory_at N (root N (source_of N k)) ≡ false → get_or copied k 0 ≡ copy_on N f (zero_word N) (k / 3) (k % 3)
      other m =
          t.others k (omega (arith, y.other m)) ∙ get_or-replicate 3072 k 0 0 (omega arith)
          ∙ sym (ap (λ (b : Bool). cond b (reset_word N f (zero_word N) (k / 3) (k % 3) (count_on N f (zero_word N) (k / 3) (k % 3))) 0) m)

  wants_made : (copied : List ℕ) → Copied N f copied → Wants N f ends copied
  wants_made copied made u h = all_wanted copied w made small u h

  pub wants_taken : {copied : List ℕ} → length clocks ≡ 3072 → Taken N clocks froms (replicate 3072 0) copied → Wants N f ends copied
  wants_taken {copied} l t = wants_made copied (copies_made l t)

  -- ---- the entries

  module _ {owners words firsts : List ℕ} {entries : ℕ} (placed : AllPlaced N f owners words firsts entries) (few : entries ≤ 1024) where
    pub entries_are : entries ≡ entry_count N f
    entries_are = (placed.exact few).0

    pub planning : {copied : List ℕ} → length clocks ≡ 3072 → Taken N clocks froms (replicate 3072 0) copied → Planning N f leads roots passes ends copied firsts
    planning l t = record {
      ready = ready;
      ends_in_lem = λ k h g. (w.wires k h g).end;
      copies_in = copies_made l t;
      firsts_in_lem = (placed.exact few).2;
      few = omega (arith, entries_are);
    }

    pub laid-first : {late : List ℕ} (sources : List ℕ) → late ≡ replicate 1024 65535 → Laid N f owners words late sources 0 entries
    unfolding row_before
    laid-first sources e = record {
      held = (placed.exact few).1;
      count = omega (arith, entries_are);
      heads = λ j l. absurd (not-suc-le-zero l);
      regs = λ j l b. absurd (not-suc-le-zero l);
      never = λ i l. ap (λ (s : List ℕ). get_or s i 0) e ∙ get_or-replicate 1024 i 65535 0 (omega (arith, entries_are));
      ahead = λ i l b. ap (λ (s : List ℕ). get_or s i 0) e ∙ get_or-replicate 1024 i 65535 0 b;
    }

-- ---- the wires in their area, and the entries in the plan's

-- at first there is none
pub entered_none : (N : Net) (f : Timing) (l : List ℕ) {n : ℕ} → l ≡ replicate n 65535 → 10240 ≤ n → Entered N f l 0
entered_none N f l {n} e h = wired_as
    (ap (λ (y : List ℕ). ends_in y) e ∙ section_replicate 0 3072 n 65535 (omega arith)) refl
    (ap (λ (y : List ℕ). clocks_in y) e ∙ section_replicate 6144 3072 n 65535 (omega arith)) (wired_none N f (froms_in l))

-- and none is linked
pub linked_first : (l l₀ : List ℕ) {n count : ℕ} → heads_in l ≡ heads_in l₀ → l₀ ≡ replicate n 65535 → 10240 ≤ n → count ≤ 3072 → LinkedFrom (ends_in l) (clocks_in l) count (heads_in l) (clocks_in l) count
linked_first l l₀ {n} {count} same e h few =
    subst (λ (y : List ℕ). LinkedFrom (ends_in l) (clocks_in l) count y (clocks_in l) count) (sym (same ∙ ap (λ (y : List ℕ). heads_in y) e ∙ section_replicate 9216 1024 n 65535 (omega arith)))
    (linked_none (ends_in l) (clocks_in l) count few)

module _ {N : Net} {f : Timing} {timing : List ℕ} (wires : List ℕ) (ready : Timed N f timing) (w : Entered N f wires (3 * size N)) (long : length wires ≡ 10240) where
  pub clocks_length : length (clocks_in wires) ≡ 3072
  clocks_length = section-length 6144 3072 wires (omega arith)

  pub clocks_of_nodes : OfNodes N (clocks_in wires) (froms_in wires)
  clocks_of_nodes = wires_of_nodes ready w clocks_length

  -- the links stand in their area, and the wires end where they did
  module _ (links : List ℕ) (same : ends_in links ≡ ends_in wires) where
    pub links_made : {count : ℕ} → count ≡ 3 * size N → LinkedFrom (ends_in wires) (clocks_in wires) count (heads_in links) (clocks_in links) 0 → RomsLinked N (ends_in links) (heads_in links) (clocks_in links)
    links_made e l = subst (λ (y : List ℕ). RomsLinked N y (heads_in links) (clocks_in links)) (sym same) (roms_linked w ready.formed.fields.bounds.nodes (linked_as e l))

    module _ {copied : List ℕ} (t : Taken N (clocks_in wires) (froms_in wires) (replicate 3072 0) copied) where
      pub wants_linked : Wants N f (ends_in links) copied
      wants_linked = subst (λ (y : List ℕ). Wants N f y copied) (sym same) (wants_taken ready w clocks_length t)

      pub planning_linked : (plan : List ℕ) {entries : ℕ} → AllPlaced N f (owners_in plan) (words_in plan) (firsts_in plan) entries → entries ≤ 1024
          → Planning N f timing (roots_in timing) (passes_in timing) (ends_in links) copied (firsts_in plan)
      planning_linked plan placed few =
          subst (λ (y : List ℕ). Planning N f timing (roots_in timing) (passes_in timing) y copied (firsts_in plan)) (sym same) (planning ready w placed few clocks_length t)

  -- no register has a clock yet
  pub laid_filled : (plan filled : List ℕ) {entries n : ℕ} → AllPlaced N f (owners_in plan) (words_in plan) (firsts_in plan) entries → entries ≤ 1024 → late_in plan ≡ late_in filled → filled ≡ replicate n 65535 → n ≡ 7168
      → Laid N f (owners_in plan) (words_in plan) (late_in plan) (sources_in plan) 0 entries
  laid_filled plan filled {entries} {n} placed few late e h =
      laid-first ready w placed few (sources_in plan) (late ∙ ap (λ (y : List ℕ). late_in y) e ∙ section_replicate 2048 1024 n 65535 (omega arith))

-- ---- the registers, and all

pub places-length : (N : Net) (f : Timing) → length (places N f (zero_word N)) ≡ entry_count N f + length (wires_before N f (3 * entry_count N f))
unfolding places
places-length N f = length-append (entry_places N f (zero_word N)) (reg_places N f (zero_word N)) ∙ ap (λ (l : List Place). entry_count N f + length l) (regs_in_row N f)

-- ---- the plan's area

module _ (N : Net) (f : Timing) (plan : List ℕ) where
  pub plan_laid : {entries total : ℕ} → entries ≡ entry_count N f → entries ≤ 1024 → AllLaid N f (owners_in plan) (words_in plan) (late_in plan) (sources_in plan) total → PlanLaid N f plan entries total
  plan_laid e h p = record { exact = λ o. (e, omega arith, p.exact o); over = λ o. omega (arith, p.over o, places-length N f) }

  pub many_entries : {owners words firsts : List ℕ} {entries : ℕ} → AllPlaced N f owners words firsts entries → 1024 < entries → PlanLaid N f plan entries entries
  many_entries p h = record { exact = λ o. absurd (omega arith); over = λ o. omega (arith, p.over h, places-length N f) }
