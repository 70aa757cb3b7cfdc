-- The wires of each ROM, linked from one to the next by two lists. Assumes nothing.
use Rattle.std.specs.Prelude.{◌≡◌, refl, List, ℕ, ◌+◌, ◌*◌, ◌≤◌, ◌<◌, length, set, replicate}
use Rattle.std.proofs.Common.{sym, ap, subst, ◌∙◌, arith, length-set, get_or-set_other}
use Rattle.std.proofs.Math.Logic.{⊎_elim}
use Rattle.std.proofs.Math.Bool.{true}
use Rattle.std.proofs.Math.ListN.{get_or}
use Rattle.std.proofs.lemmas.List.{length-replicate}
use Rattle.lists.proofs.BelowLaws.{true_or_false}
use Rattle.lists.specs.Linked as linked
use Rattle.lists.proofs.Linked as linked_laws
use Rattle.lists.proofs.Sections.{section-length, section-read, section-put, section_before, section-after, last_read, last_put}
use Rattle.netlist.specs.Net.{Net, size, element_at, is_memory}
use Rattle.retiming.specs.Rewrite.{Timing, memory_at}
use Rattle.wiring.specs.Wiring.{ends_in, clocks_in, heads_in, wire_at, last_clock, WiredTo}
use Rattle.wiring.specs.WiringLaws.{asked_small}

-- r is the first wire from k on that ends at u, or there is none
abbrev pub From : List ℕ → ℕ → ℕ → ℕ → ℕ → Type 0
From ends wires u k r = linked.From (λ j v. get_or ends j 0 ≡ v) wires u k r

-- from a first wire on, each wire that ends at u has the next one
pub record Chained (ends links : List ℕ) (wires u first : ℕ) : Type 0 where
  pub start : From ends wires u 0 first
  pub step : (j : ℕ) → j < wires → get_or ends j 0 ≡ u → From ends wires u (j + 1) (get_or links j 0)

pub chained_as : {ends links : List ℕ} {wires wires' u first first' : ℕ} → wires ≡ wires' → first' ≡ first → Chained ends links wires u first → Chained ends links wires' u first'
chained_as {ends} {links} {u = u} {first = first} {first' = first'} p q t = subst (λ (w : ℕ). Chained ends links w u first') p (subst (Chained ends links _ u) (sym q) t)

-- of every ROM
abbrev pub RomsLinked : Net → List ℕ → List ℕ → List ℕ → Type 0
RomsLinked N ends heads links = (u : ℕ) → u < size N → is_memory (element_at N u) ≡ true → Chained ends links (3 * size N) u (get_or heads u 0)

-- ---- linking, from the last wire back: those that have a clock are linked

-- wire j is one of them, and ends at u
abbrev Listed : List ℕ → List ℕ → ℕ → ℕ → Type 0
Listed ends clocks j u = (get_or ends j 0 ≡ u) × (get_or clocks j 0 < 65535)

module _ (ends clocks : List ℕ) (wires : ℕ) where
  -- from wire k on they are linked, and before it the clocks stand as they were
  pub record LinkedFrom (heads links : List ℕ) (k : ℕ) : Type 0 where
    pub many : length heads ≡ 1024
    pub kept : (j : ℕ) → j < k → get_or links j 0 ≡ get_or clocks j 0
    pub chains : linked.LinkedFrom (Listed ends clocks) wires heads links k

  pub linked_none : wires ≤ 3072 → LinkedFrom (replicate 1024 65535) clocks wires
  linked_none h = record { many = length-replicate {A = ℕ} 1024 65535; kept = λ j l. refl; chains = linked_laws.linked_none (Listed ends clocks) wires 1024 65535 clocks wires (omega arith) (λ j u a i. absurd (omega arith)) }

  module _ {heads links : List ℕ} {w : ℕ} (h : w < wires) (t : LinkedFrom heads links (w + 1)) where
    clock_here : get_or links w 0 ≡ get_or clocks w 0
    clock_here = t.kept w (omega arith)

    pub linked_past : 65535 ≤ get_or links w 0 → LinkedFrom heads links w
    linked_past o = record { many = t.many; kept = λ j l. t.kept j (omega arith); chains = linked_laws.linked_past (Listed ends clocks) wires h t.chains (λ u i. omega (arith, i.1, clock_here)) }

    pub linked_more : {u : ℕ} → u ≡ get_or ends w 0 → get_or links w 0 < 65535 → w < length links → {more through : List ℕ} → more ≡ set heads u w → through ≡ set links w (get_or heads u 0) → LinkedFrom more through w
    linked_more {u} ue on long {more} {through} p q = record {
      many = ap length p ∙ length-set heads u w ∙ t.many;
      kept = λ j l. ap (λ (s : List ℕ). get_or s j 0) q ∙ get_or-set_other links w j (get_or heads u 0) 0 (λ e. omega arith) ∙ t.kept j (omega arith);
      chains =
          subst (λ (s : List ℕ). linked.LinkedFrom (Listed ends clocks) wires s through w) (sym p)
          (subst (λ (s : List ℕ). linked.LinkedFrom (Listed ends clocks) wires (set heads u w) s w) (sym q)
          (linked_laws.linked_more (Listed ends clocks) wires h t.chains u (sym ue, omega (arith, clock_here)) (λ v i. sym i.0 ∙ sym ue) long));
    }

pub linked_as : {ends clocks heads links : List ℕ} {wires wires' k : ℕ} → wires ≡ wires' → LinkedFrom ends clocks wires heads links k → LinkedFrom ends clocks wires' heads links k
linked_as {ends} {clocks} {heads} {links} {k = k} p t = subst (λ (w : ℕ). LinkedFrom ends clocks w heads links k) p t

-- a link and a head put into the area
module _ (l : List ℕ) {m : List ℕ} {wires w u : ℕ} (few : wires ≤ 3072) (h : w < wires) (long : length l ≡ 10240) (ue : u ≡ get_or l (0 + w) 0)
    (p : m ≡ set (set l (6144 + w) (get_or l (9216 + u) 0)) (9216 + u) w) where
  abbrev put : List ℕ
  put = set l (6144 + w) (get_or l (9216 + u) 0)

  pub ends_kept : ends_in m ≡ ends_in l
  ends_kept = ap ends_in p ∙ section-after 0 3072 put (9216 + u) w (omega arith) ∙ section-after 0 3072 l (6144 + w) (get_or l (9216 + u) 0) (omega arith)

  pub linked_put : get_or l (6144 + w) 0 < 65535 → (clocks : List ℕ) → LinkedFrom (ends_in l) clocks wires (heads_in l) (clocks_in l) (w + 1) → LinkedFrom (ends_in l) clocks wires (heads_in m) (clocks_in m) w
  linked_put on clocks t =
      linked_more (ends_in l) clocks wires h t (ue ∙ sym (section-read 0 3072 l w (omega arith))) (omega (arith, section-read 6144 3072 l w (omega arith))) (omega (arith, section-length 6144 3072 l (omega arith)))
      (ap heads_in p ∙ last_put 9216 1024 put (omega (arith, length-set l (6144 + w) (get_or l (9216 + u) 0))) u w ∙ ap (λ (y : List ℕ). set y u w) (section_before 9216 1024 l (6144 + w) (get_or l (9216 + u) 0) (omega arith)))
      (ap clocks_in p ∙ section-after 6144 3072 put (9216 + u) w (omega arith) ∙ section-put 6144 3072 l w (get_or l (9216 + u) 0) (omega arith)
      ∙ ap (set (clocks_in l) w) (sym (last_read 9216 1024 l (omega arith) u)))

-- ---- every wire of a ROM has a clock

module _ {N : Net} {f : Timing} {ends froms clocks heads links : List ℕ} (w : WiredTo N f ends froms clocks (3 * size N)) (small : size N ≤ 1024) (t : LinkedFrom ends clocks (3 * size N) heads links 0) where
  every : (u : ℕ) → u < size N → is_memory (element_at N u) ≡ true → (j : ℕ) → j < 3 * size N → get_or ends j 0 ≡ u → get_or clocks j 0 < 65535
  unfolding memory_at
  every u h m j l e = ⊎_elim wire (λ g. absurd (omega (arith, (w.gaps j l g).end))) (true_or_false (wire_at N f j))
    where
      wire : wire_at N f j ≡ true → get_or clocks j 0 < 65535
      wire g =
          let x = w.wires j l g in
          omega (arith, x.rom (ap (λ (v : ℕ). is_memory (element_at N v)) (sym x.end ∙ e) ∙ m), asked_small (last_clock N f j) f.origin x.early)

  -- so the linked ones are all that end there
  all_linked : (u k r : ℕ) → u < size N → is_memory (element_at N u) ≡ true → linked.From (Listed ends clocks) (3 * size N) u k r → From ends (3 * size N) u k r
  all_linked u k r h m f = record {
    none = λ j a b l e. f.none j a b l (e, every u h m j l e);
    here = λ l. ((f.here l).0, (f.here l).1.0);
  }

  pub roms_linked : RomsLinked N ends heads links
  roms_linked u h m = record {
    start = all_linked u 0 (get_or heads u 0) h m (t.chains.first u (omega (arith, t.many)));
    step = λ j l e. all_linked u (j + 1) (get_or links j 0) h m (t.chains.next j u (omega arith) l (omega (arith, t.many)) (e, every u h m j l e));
  }
