-- Wires counted and entered, over plain values. Assumes nothing.
use Rattle.std.specs.Prelude.{◌≡◌, Bool, not, ◌&&◌, List, ℕ, suc, ◌+◌, ◌-◌, ◌*◌, ◌/◌, ◌%◌, ◌≤◌, ◌<◌, length, set, replicate}
use Rattle.std.proofs.Math.Path.{refl, ap}
use Rattle.std.proofs.Common.{sym, ap₂, subst, ◌∙◌, ⊎_elim, true≢false, le_refl, arith, get_or-set_same, get_or-set_other}
use Rattle.std.proofs.Math.Bool.{true, false, cond}
use Rattle.std.proofs.lemmas.Bool.{false≢true}
use Rattle.std.proofs.Math.ListN.{get_or}
use Rattle.std.proofs.lemmas.List.{get_or-replicate}
use borrow.Author.Tests.{lt-ltb, le-ltb, ltb-true}
use Rattle.lists.specs.Lists.{one}
use Rattle.lists.proofs.Sections.{section-length, section-put, section_before, section-after}
use Rattle.lists.proofs.BelowLaws.{true_or_false, lt-suc_split, lt_or_le, bit_true, bit_false}
use Rattle.netlist.specs.declared.Element.{Element}
use Rattle.netlist.specs.declared.Element.TheVariants.{Input, Output, Register, Async, Clocked, Gate}
use Rattle.netlist.specs.Net.{Net, size, element_at, source, operands, is_register, is_memory, is_clocked, Sourced}
use Rattle.behaviour.specs.Run.{zero_word}
use Rattle.retiming.specs.Rewrite.{Timing, root, own_here, memory_at, stays}
use Rattle.retiming.proofs.Wires.{root_within}
use Rattle.wires.specs.Traced.{roots_in, passes_in}
use Rattle.wires.specs.TracedLaws.{passed_few, root_at, pass_at}
use Rattle.wiring.specs.Wiring.{Ready, Timed, heads_in, Entered, count_from, asked_clock, wires_to, wire_count, source_of, wire_at, last_clock, Wired, Unwired, WiredTo}

pub wires_few : (e : Element) → wires_to e ≤ operands e
wires_few Input = omega arith
wires_few Output = omega arith
wires_few (Register r) = omega arith
wires_few (Async m) = le_refl _
wires_few (Clocked m r) = le_refl _
wires_few (Gate o) = le_refl _

pub one_few : (b : Bool) → one b ≤ 1
one_few true = omega arith
one_few false = omega arith

module _ {N : Net} {f : Timing} {leads roots passes : List ℕ} (t : Ready N f leads roots passes) where
  -- the leads are small
  pub lead_few : (v : ℕ) → v < size N → get_or leads v 0 ≤ 2050
  lead_few v h = omega (arith, t.leads_in v h, t.suits.few v h)

  module _ {s u : ℕ} (h : s < size N) (e : u ≡ get_or roots s 0) where
    pub is_root : u ≡ root N s
    is_root = e ∙ (t.traced s h).from

    pub root_inside : u < size N
    root_inside = omega (arith, is_root, root_within N t.formed.sourced s h)

    pub passed_small : get_or passes s 0 ≤ 1024
    passed_small = omega (arith, (t.traced s h).through, passed_few N s, t.formed.fields.bounds.nodes)

    -- the registers on a wire, from what the lists hold
    module _ {x : ℕ} (k : x < size N) where
      pub counted : ((get_or passes s 0 + one (is_clocked (element_at N u)) + get_or leads u 0) - get_or leads x 0) - one (is_memory (element_at N u)) ≡ count_from N f x s
      unfolding count_from own_here memory_at
      counted =
          let p = (t.traced s h).through in
          let l : get_or leads u 0 ≡ f.lead (root N s) = t.leads_in u root_inside ∙ ap f.lead is_root in
          let o : one (is_clocked (element_at N u)) ≡ one (is_clocked (element_at N (root N s))) = ap (λ (v : ℕ). one (is_clocked (element_at N v))) is_root in
          let m : one (is_memory (element_at N u)) ≡ one (is_memory (element_at N (root N s))) = ap (λ (v : ℕ). one (is_memory (element_at N v))) is_root in
          omega (arith, t.leads_in x k)

      pub count_few : ((get_or passes s 0 + one (is_clocked (element_at N u)) + get_or leads u 0) - get_or leads x 0) - one (is_memory (element_at N u)) ≤ 3075
      count_few = omega (arith, passed_small, lead_few u root_inside, one_few (is_clocked (element_at N u)))

-- the root and the registers passed, as the code reads them
module _ {N : Net} {f : Timing} {timing : List ℕ} {s : ℕ} (t : Timed N f timing) (h : s < size N) where
  pub root-read : get_or timing (1024 + s) 0 ≡ get_or (roots_in timing) s 0
  root-read = root_at timing s h t.formed.fields.bounds.nodes refl

  pub passed-read : get_or timing (2048 + s) 0 ≡ get_or (passes_in timing) s 0
  passed-read = pass_at timing s h t.formed.fields.bounds.nodes refl

-- ---- one wire more

module _ {N : Net} {f : Timing} {ends froms clocks : List ℕ} {k : ℕ} (w : WiredTo N f ends froms clocks k) where
  -- up to m there is none
  pub wired_gap : (m : ℕ) → k ≤ m → m ≤ 3072 → ((j : ℕ) → k ≤ j → j < m → wire_at N f j ≡ false) → WiredTo N f ends froms clocks m
  wired_gap m h b none = record {
    wires = λ j l g. ⊎_elim (λ a. w.wires j a g) (λ a. absurd (true≢false (sym g ∙ none j a l))) (lt_or_le j k);
    gaps = λ j l g. ⊎_elim (λ a. w.gaps j a g) (λ a. w.ahead j a (omega arith)) (lt_or_le j k);
    ahead = λ j l d. w.ahead j (omega arith) d;
  }

  module _ (a : length ends ≡ 3072) (b : length froms ≡ 3072) (d : length clocks ≡ 3072) (h : k < 3072) {end from clock at : ℕ} (g : wire_at N f k ≡ true)
      (e : end ≡ root N (source_of N k)) (s : from ≡ source_of N k) (c : clock ≡ last_clock N f k) (small : clock < 65534)
      (r : at ≡ cond (memory_at N (root N (source_of N k))) (asked_clock f.origin clock) 65535) where
    abbrev ends' : List ℕ
    ends' = set ends k end

    abbrev froms' : List ℕ
    froms' = set froms k from

    abbrev clocks' : List ℕ
    clocks' = set clocks k at

    here : Wired N f ends' froms' clocks' k
    here = record {
      end = get_or-set_same ends k end 0 (omega arith) ∙ e;
      from = get_or-set_same froms k from 0 (omega arith) ∙ s;
      early = omega (arith, c);
      rom = λ m. get_or-set_same clocks k at 0 (omega arith) ∙ r ∙ ap (λ (z : Bool). cond z (asked_clock f.origin clock) 65535) m ∙ ap (asked_clock f.origin) c;
      other = λ m. get_or-set_same clocks k at 0 (omega arith) ∙ r ∙ ap (λ (z : Bool). cond z (asked_clock f.origin clock) 65535) m;
    }

    still : (j : ℕ) → j < k → Wired N f ends froms clocks j → Wired N f ends' froms' clocks' j
    still j l y = record {
      end = get_or-set_other ends k j end 0 (λ q. omega arith) ∙ y.end;
      from = get_or-set_other froms k j from 0 (λ q. omega arith) ∙ y.from;
      early = y.early;
      rom = λ m. get_or-set_other clocks k j at 0 (λ q. omega arith) ∙ y.rom m;
      other = λ m. get_or-set_other clocks k j at 0 (λ q. omega arith) ∙ y.other m;
    }

    none : (j : ℕ) → (j ≡ k → ⊥) → Unwired N f ends froms clocks j → Unwired N f ends' froms' clocks' j
    none j l y = record {
      end = get_or-set_other ends k j end 0 l ∙ y.end;
      never = get_or-set_other clocks k j at 0 l ∙ y.never;
    }

    pub wired_more : WiredTo N f ends' froms' clocks' (k + 1)
    wired_more = record {
      wires = λ j l q. ⊎_elim (λ y. still j y (w.wires j y q)) (λ y. subst (Wired N f ends' froms' clocks') (sym y) here) (lt-suc_split (let z : j < suc k = omega arith in z));
      gaps = λ j l q. ⊎_elim (λ y. none j (λ z. omega arith) (w.gaps j y q)) (λ y. absurd (true≢false (sym g ∙ ap (wire_at N f) (sym y) ∙ q))) (lt-suc_split (let z : j < suc k = omega arith in z));
      ahead = λ j l m. none j (λ z. omega arith) (w.ahead j (omega arith) m);
    }

-- the same of equal lists, and of equal numbers
pub wired_as : {N : Net} {f : Timing} {e e' s s' c c' : List ℕ} {k : ℕ} → e' ≡ e → s' ≡ s → c' ≡ c → WiredTo N f e s c k → WiredTo N f e' s' c' k
wired_as {N} {f} {e} {e'} {s} {s'} {c} {c'} {k} p q r w =
    subst (λ (y : List ℕ). WiredTo N f y s' c' k) (sym p) (subst (λ (y : List ℕ). WiredTo N f e y c' k) (sym q) (subst (λ (y : List ℕ). WiredTo N f e s y k) (sym r) w))

pub wired_at : {N : Net} {f : Timing} {e s c : List ℕ} {k m : ℕ} → k ≡ m → WiredTo N f e s c k → WiredTo N f e s c m
wired_at {N} {f} {e} {s} {c} p w = subst (WiredTo N f e s c) p w

-- the heads stand as they were
pub heads_kept : (l : List ℕ) (k end from at : ℕ) → k < 3072 → heads_in (set (set (set l (0 + k) end) (3072 + k) from) (6144 + k) at) ≡ heads_in l
heads_kept l k end from at h =
    section_before 9216 1024 (set (set l (0 + k) end) (3072 + k) from) (6144 + k) at (omega arith)
    ∙ section_before 9216 1024 (set l (0 + k) end) (3072 + k) from (omega arith)
    ∙ section_before 9216 1024 l (0 + k) end (omega arith)

-- one wire more in the area
module _ {N : Net} {f : Timing} (l : List ℕ) {k : ℕ} (w : Entered N f l k) (long : length l ≡ 10240) (h : k < 3072) {end from clock at : ℕ} (g : wire_at N f k ≡ true)
    (e : end ≡ root N (source_of N k)) (s : from ≡ source_of N k) (c : clock ≡ last_clock N f k) (small : clock < 65534)
    (r : at ≡ cond (memory_at N (root N (source_of N k))) (asked_clock f.origin clock) 65535) where
  abbrev one_put : List ℕ
  one_put = set l (0 + k) end

  abbrev two_put : List ℕ
  two_put = set one_put (3072 + k) from

  abbrev all_put : List ℕ
  all_put = set two_put (6144 + k) at

  put_wires : Entered N f all_put (k + 1)
  put_wires = wired_as
      (section-after 0 3072 two_put (6144 + k) at (omega arith) ∙ section-after 0 3072 one_put (3072 + k) from (omega arith) ∙ section-put 0 3072 l k end h)
      (section-after 3072 3072 two_put (6144 + k) at (omega arith) ∙ section-put 3072 3072 one_put k from h ∙ ap (λ (m : List ℕ). set m k from) (section_before 3072 3072 l (0 + k) end (omega arith)))
      (section-put 6144 3072 two_put k at h ∙ ap (λ (m : List ℕ). set m k at) (section_before 6144 3072 one_put (3072 + k) from (omega arith) ∙ section_before 6144 3072 l (0 + k) end (omega arith)))
      (wired_more w (section-length 0 3072 l (omega arith)) (section-length 3072 3072 l (omega arith)) (section-length 6144 3072 l (omega arith)) h g e s c small r)

  put_heads : heads_in all_put ≡ heads_in l
  put_heads = heads_kept l k end from at h

  pub entered_more : {a b z : List ℕ} → a ≡ set l (0 + k) end → b ≡ set a (3072 + k) from → z ≡ set b (6144 + k) at → Entered N f z (k + 1) × (heads_in z ≡ heads_in l)
  entered_more x y q =
      let same = q ∙ ap (λ (m : List ℕ). set m (6144 + k) at) (y ∙ ap (λ (m : List ℕ). set m (3072 + k) from) x) in
      subst (λ (m : List ℕ). Entered N f m (k + 1) × (heads_in m ≡ heads_in l)) (sym same) (put_wires, put_heads)

-- at first there is none
pub wired_none : (N : Net) (f : Timing) (froms : List ℕ) → WiredTo N f (replicate 3072 65535) froms (replicate 3072 65535) 0
wired_none N f froms = record {
  wires = λ j l g. absurd (omega arith);
  gaps = λ j l g. absurd (omega arith);
  ahead = λ j l m. record { end = get_or-replicate 3072 j 65535 0 m; never = get_or-replicate 3072 j 65535 0 m };
}

-- ---- wire k as the code reads it

pub register_wires : (e : Element) → is_register e ≡ true → 0 ≡ wires_to e
register_wires Input q = refl
register_wires Output q = absurd (false≢true q)
register_wires (Register r) q = refl
register_wires (Async m) q = absurd (false≢true q)
register_wires (Clocked m r) q = absurd (false≢true q)
register_wires (Gate o) q = absurd (false≢true q)

pub other_wires : (e : Element) → is_register e ≡ false → operands e ≡ wires_to e
other_wires Input q = refl
other_wires Output q = refl
other_wires (Register r) q = absurd (true≢false q)
other_wires (Async m) q = refl
other_wires (Clocked m r) q = refl
other_wires (Gate o) q = refl

-- the clock of a ROM
pub rom_some : (e : Element) (clock : ℕ) {n : ℕ} → n ≡ one (is_memory e) → n ≡ 1 → clock ≡ cond (is_memory e) clock 65535
rom_some e clock q r = sym (ap (λ (z : Bool). cond z clock 65535) (bit_true (is_memory e) (sym q ∙ r)))

pub rom_none : (e : Element) (clock : ℕ) {n : ℕ} → n ≡ one (is_memory e) → (n ≡ 1 → ⊥) → 65535 ≡ cond (is_memory e) clock 65535
rom_none e clock q r = sym (ap (λ (z : Bool). cond z clock 65535) (bit_false (is_memory e) (λ y. r (q ∙ y))))

module _ (N : Net) (f : Timing) (k : ℕ) where
  pub wire_there : k % 3 < wire_count N f (k / 3) → wire_at N f k ≡ true
  unfolding wire_at
  wire_there h = lt-ltb (k % 3) (wire_count N f (k / 3)) h

  pub wire_missing : wire_count N f (k / 3) ≤ k % 3 → wire_at N f k ≡ false
  unfolding wire_at
  wire_missing h = le-ltb (k % 3) (wire_count N f (k / 3)) h

-- a node that is left out has no wire, and any other as many as operands
module _ (N : Net) (f : Timing) (x : ℕ) where
  pub count_left : f.keeps x ≡ false → wire_count N f x ≡ 0
  unfolding wire_count
  count_left k = rw k

  pub count_kept : f.keeps x ≡ true → wire_count N f x ≡ wires_to (element_at N x)
  unfolding wire_count
  count_kept k = rw k

  pub count_wires : wire_count N f x ≤ wires_to (element_at N x)
  count_wires = ⊎_elim (λ k. omega (arith, count_kept k)) (λ k. omega (arith, count_left k)) (true_or_false (f.keeps x))

  -- what is told of all operands where the node stays and is no register, and else of none, is told of its wires
  pub by_wires : {A : Type 0} (g : ℕ → A) → cond (stays N f (zero_word N) x) (g (operands (element_at N x))) (g 0) ≡ g (wire_count N f x)
  unfolding stays wire_count
  by_wires {A} g = by_element (f.keeps x) (element_at N x)
    where
      by_element : (k : Bool) (e : Element) → cond (not (is_register e) && k) (g (operands e)) (g 0) ≡ g (cond k (wires_to e) 0)
      by_element true Input = refl
      by_element true Output = refl
      by_element true (Register r) = refl
      by_element true (Async m) = refl
      by_element true (Clocked m r) = refl
      by_element true (Gate o) = refl
      by_element false Input = refl
      by_element false Output = refl
      by_element false (Register r) = refl
      by_element false (Async m) = refl
      by_element false (Clocked m r) = refl
      by_element false (Gate o) = refl

  pub count_keeps : 0 < wire_count N f x → f.keeps x ≡ true
  count_keeps h = ⊎_elim (λ k. k) (λ k. absurd (omega (arith, count_left k))) (true_or_false (f.keeps x))

-- a wire ends at an operand
pub wire_operand : (N : Net) (f : Timing) (k : ℕ) → wire_at N f k ≡ true → k % 3 < operands (element_at N (k / 3))
unfolding wire_at
wire_operand N f k e = omega (arith, ltb-true (k % 3) (wire_count N f (k / 3)) e, count_wires N f (k / 3), wires_few (element_at N (k / 3)))

-- and its source is a node
pub wire_inside : (N : Net) (f : Timing) → Sourced N → (k : ℕ) → k < 3 * size N → wire_at N f k ≡ true → source_of N k < size N
unfolding Sourced
wire_inside N f sourced k h e = sourced (k / 3) (k % 3) (omega arith) (wire_operand N f k e)

pub operand_inside : (N : Net) (f : Timing) {x p s : ℕ} → Sourced N → x < size N → p < wire_count N f x → s ≡ source N x p → s < size N
unfolding Sourced
operand_inside N f {x} {p} sourced h l e = omega (arith, e, sourced x p h (omega (arith, l, count_wires N f x, wires_few (element_at N x))))

-- the root of a wire as the code reads it
pub rom_at : (N : Net) (u v : ℕ) (clock : ℕ) → u ≡ v → cond (is_memory (element_at N u)) clock 65535 ≡ cond (memory_at N v) clock 65535
unfolding memory_at
rom_at N u v clock e = ap (λ (x : ℕ). cond (is_memory (element_at N x)) clock 65535) e

pub last_is : (N : Net) (f : Timing) (k : ℕ) {clock count l s : ℕ} → clock ≡ count + l → count ≡ count_from N f (k / 3) s → l ≡ f.lead (k / 3) → s ≡ source_of N k → clock ≡ last_clock N f k
unfolding last_clock
last_is N f k a b c d = a ∙ ap₂ ◌+◌ (b ∙ ap (count_from N f (k / 3)) d) c

-- the clock that is asked for
pub asked_before : {n o : ℕ} → n < o → asked_clock o n ≡ 65534
unfolding asked_clock
asked_before {n} {o} h = rw (lt-ltb n o h)

pub asked-after : {n o : ℕ} → o ≤ n → asked_clock o n ≡ n - o
unfolding asked_clock
asked-after {n} {o} h = rw (le-ltb n o h)

pub asked_small : (n o : ℕ) → n < 65534 → asked_clock o n < 65535
asked_small n o h = ⊎_elim (λ l. omega (arith, asked_before l)) (λ l. omega (arith, asked-after l)) (lt_or_le n o)
