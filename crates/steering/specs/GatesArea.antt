-- The gates of one wire more, as the code reads and puts them. Assumes nothing.
use Rattle.std.specs.Prelude.{◌≡◌, List, set}
use Rattle.std.proofs.Math.Path.{refl, sym, ap}
use Rattle.std.proofs.Common.{ap₂, subst, ◌∙◌}
use Prim.Native.Nat.{ℕ, zero, suc, ◌+◌, ◌-◌, ◌*◌, ◌/◌, ◌%◌, ◌≤◌, ◌<◌}
use native.Mathlib.Omega.{arith}
use Rattle.std.proofs.Math.ListN.{length, get_or}
use Rattle.lists.proofs.Sections.{section-length, section-read}
use Rattle.netlist.specs.Net.{Net, size, element_at, source, operands, Sourced}
use Rattle.behaviour.specs.Run.{zero_word}
use Rattle.retiming.specs.Rewrite.{Timing, places}
use Rattle.retiming.specs.Gates.{first_on, shown_on}
use Rattle.wiring.specs.Wiring.{Ready}
use Rattle.plan.specs.Areas.{owners_in, words_in, late_in, sources_in}
use Rattle.plan.specs.Registers.{entry_count}
use Rattle.plan.specs.RegistersPut.{source-put}
use Rattle.plan.specs.OperandAt.{OperandAt, operand_at, rest_of}
use Rattle.plan.specs.PlanLaws.{places-length}
use Rattle.steering.specs.GatesTo.{PutsPairs, GatesTo}
use Rattle.steering.specs.GatesLaws.{gate_reader, gates_past, gates_none, gates_more}
use Rattle.steering.specs.ChainLaws.{shown_from, shown_from_lem}

-- the same of equal lists, and of equal numbers
gates_as : {N : Net} {f : Timing} {o o' w w' l l' s s' : List ℕ} {m total : ℕ} → o' ≡ o → w' ≡ w → l' ≡ l → s' ≡ s → GatesTo N f o w l s m total → GatesTo N f o' w' l' s' m total
gates_as {N} {f} {o} {o'} {w} {w'} {l} {l'} {s} {s'} {m} {total} a b c e d =
    subst (λ (y : List ℕ). GatesTo N f y w' l' s' m total) (sym a) (subst (λ (y : List ℕ). GatesTo N f o y l' s' m total) (sym b)
    (subst (λ (y : List ℕ). GatesTo N f o w y s' m total) (sym c) (subst (λ (y : List ℕ). GatesTo N f o w l y m total) (sym e) d)))

pub gates_at : {N : Net} {f : Timing} {o w l s : List ℕ} {m n total : ℕ} → m ≡ n → GatesTo N f o w l s m total → GatesTo N f o w l s n total
gates_at {N} {f} {o} {w} {l} {s} {total = total} e d = subst (λ (i : ℕ). GatesTo N f o w l s i total) e d

pairs_as : {s s' head clock steer count start done : ℕ} {o l r o' l' r' : List ℕ} → s ≡ s' → PutsPairs s head clock steer count start done o l r o' l' r' → PutsPairs s' head clock steer count start done o l r o' l' r'
pairs_as {head = head} {clock} {steer} {count} {start} {done} {o} {l} {r} {o'} {l'} {r'} e t = subst (λ (v : ℕ). PutsPairs v head clock steer count start done o l r o' l' r') e t

-- what is known of the wire to operand p of entry e once its reader x is read
pub record GateRead (N : Net) (e p x : ℕ) : Type 0 where
  pub inside : x < size N
  pub few : p < 3
  pub new : 3 * e + p < 3072
  pub from : source N x p < size N

module _ {N : Net} {f : Timing} {leads roots passes : List ℕ} (plan : List ℕ) (t : Ready N f leads roots passes) {e p total entries : ℕ}
    (d : GatesTo N f (owners_in plan) (words_in plan) (late_in plan) (sources_in plan) (3 * e + p) total) (ne : entries ≡ entry_count N f) (h : e < entries)
    (o : p < operands (element_at N (get_or (owners_in plan) e 0))) {x : ℕ} (xe : x ≡ get_or plan e 0) where
  abbrev m : ℕ
  m = 3 * e + p

  entries_few : entry_count N f ≤ 1024
  entries_few = omega (arith, places-length N f, d.few)

  at : OperandAt N f plan e p x
  at = operand_at N f (omega arith) plan entries_few o xe

  reader_inside : x < size N
  reader_inside = omega (arith, at.reader, (gate_reader d at.within).inside)

  pub gate-read : GateRead N e p x
  unfolding Sourced
  gate-read = record {
    inside = reader_inside;
    few = at.few;
    new = omega (arith, at.within, entries_few);
    from = omega (arith, at.from, t.formed.sourced (get_or (owners_in plan) (m / 3) 0) (m % 3) (gate_reader d at.within).inside at.there);
  }

  -- how many gates it has
  module _ {s n : ℕ} (se : s ≡ source N x p) (ke : n ≡ shown_from N f x s) where
    shown_is : n ≡ shown_on N f (zero_word N) (get_or (owners_in plan) (m / 3) 0) (m % 3)
    shown_is = ke ∙ ap₂ (shown_from N f) at.reader (se ∙ at.from) ∙ sym (shown_from_lem N f (get_or (owners_in plan) (m / 3) 0) (m % 3))

    pub wire_ungated : n ≡ 0 → GatesTo N f (owners_in plan) (words_in plan) (late_in plan) (sources_in plan) (3 * e + p + 1) total
    wire_ungated z = gates_none d at.within at.there (sym shown_is ∙ z)

    pub wire_gated : (n ≡ 0 → ⊥) → {head lead origin wired steer clock from : ℕ} (put last : List ℕ) → head ≡ get_or plan (4096 + (3 * e + p)) 0 → lead ≡ get_or leads x 0 → origin ≡ f.origin
        → wired ≡ length (places N f (zero_word N)) → steer ≡ wired + 1 + (origin - lead) → clock ≡ lead - origin
        → PutsPairs s head clock steer n total n (owners_in plan) (late_in plan) (sources_in plan) (owners_in put) (late_in put) (sources_in put) × (words_in put ≡ words_in plan)
        → length put ≡ 7168 → last ≡ set put (4096 + (3 * e + p)) from → from ≡ total + 1
        → GatesTo N f (owners_in last) (words_in last) (late_in last) (sources_in last) (3 * e + p + 1) (total + 2 * n)
    unfolding first_on
    wire_gated nz {head} {lead} {origin} {wired} {steer} {clock} {from} put last he le oe we be ce (q, ue) long pe fe =
        let z = source-put put last m from gate-read.new pe in
        let lx : lead ≡ f.lead (get_or (owners_in plan) (m / 3) 0) = le ∙ t.leads_in x reader_inside ∙ ap f.lead at.reader in
        let hh : head ≡ get_or (sources_in plan) m 0 = he ∙ sym (section-read 4096 3072 plan m gate-read.new) in
        let steers : steer ≡ length (places N f (zero_word N)) + suc (first_on N f (zero_word N) (get_or (owners_in plan) (m / 3) 0)) = omega arith in
        let time : clock ≡ f.lead (get_or (owners_in plan) (m / 3) 0) - f.origin = omega arith in
        gates_as z.1 (z.2 ∙ ue) z.3 refl (gates_more d at.within at.there shown_is (some n nz) hh time steers fe (pairs_as (se ∙ at.from) q) z.0 (section-length 4096 3072 put (omega arith)))
      where
        some : (k : ℕ) → (k ≡ 0 → ⊥) → 0 < k
        some zero k = absurd (k refl)
        some (suc n) k = omega arith

-- ---- the wires of one entry

module _ (N : Net) (f : Timing) {e : ℕ} (h : e < entry_count N f) where
  -- the old node of an entry is the same whatever else is put
  pub owner_still : {o w l s o' w' l' s' : List ℕ} {m m' total total' : ℕ} → GatesTo N f o w l s m total → GatesTo N f o' w' l' s' m' total' → get_or o e 0 ≡ get_or o' e 0
  owner_still d d' = let a = d.held e h in let b = d'.held e h in cc (a, b)

  module _ {owners words late sources : List ℕ} {total : ℕ} where
    -- its places after the last operand have no wire
    pub gates_rest : {n : ℕ} → n ≡ operands (element_at N (get_or owners e 0)) → GatesTo N f owners words late sources (3 * e + n) total → GatesTo N f owners words late sources (3 * e + 3) total
    gates_rest q d = rest_of N owners e (λ (m : ℕ). GatesTo N f owners words late sources m total) (λ m l none at. gates_past at (omega arith) none) q d
