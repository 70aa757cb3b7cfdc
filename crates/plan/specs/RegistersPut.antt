-- The registers of one wire, put one after the other. Assumes nothing.
use Rattle.std.specs.Prelude.{◌≡◌, refl, List, ℕ, zero, suc, ◌+◌, ◌-◌, ◌*◌, ◌≤◌, ◌<◌, length, get_or, set}
use Rattle.std.proofs.Common.{sym, ap, subst, ◌∙◌, ⊎_elim, not-suc-le-zero, arith, get_or-set_same, get_or-set_other}
use Rattle.std.proofs.Math.Seq.{set_out}
use Rattle.lists.proofs.BelowLaws.{lt-suc_split}
use Rattle.lists.specs.Sections.{section}
use Rattle.lists.proofs.Sections.{section-length, section-put, section_before, section-after}
use Rattle.wiring.specs.Wiring.{asked_clock}
use Rattle.plan.specs.Areas.{owners_in, words_in, late_in, firsts_in, sources_in}
use Rattle.plan.specs.Registers.{behind, PutsTo, RegisterPut}

module _ {s from lead origin count start : ℕ} {owners late sources : List ℕ} where
  pub puts_none : PutsTo s from lead origin count start 0 owners late sources owners late sources
  puts_none = record {
    owner = λ t l. absurd (not-suc-le-zero l);
    clock = λ t l. absurd (not-suc-le-zero l);
    reads = λ t l. absurd (not-suc-le-zero l);
    owners_before = λ i l. refl;
    late_before = λ i l. refl;
    late-after = λ i l. refl;
    sources_before = λ i l. refl;
  }

  module _ {done : ℕ} {owners₁ late₁ sources₁ owners₂ late₂ sources₂ : List ℕ} {r clock before : ℕ} (t : PutsTo s from lead origin count start done owners late sources owners₁ late₁ sources₁)
      (a : length owners₁ ≡ 1024) (b : length late₁ ≡ 1024) (d : length sources₁ ≡ 3072) (re : r ≡ start + done) (ce : clock ≡ asked_clock origin (lead + (count - suc done))) (be : before ≡ behind from start done)
      (oe : owners₂ ≡ set owners₁ r s) (le : late₂ ≡ set late₁ r clock) (se : sources₂ ≡ set sources₁ (3 * r) before) where
    owners_same : (i : ℕ) → (i ≡ r → ⊥) → get_or owners₂ i 0 ≡ get_or owners₁ i 0
    owners_same i h = ap (λ (l : List ℕ). get_or l i 0) oe ∙ get_or-set_other owners₁ r i s 0 h

    late_same : (i : ℕ) → (i ≡ r → ⊥) → get_or late₂ i 0 ≡ get_or late₁ i 0
    late_same i h = ap (λ (l : List ℕ). get_or l i 0) le ∙ get_or-set_other late₁ r i clock 0 h

    reads_same : (i : ℕ) → (i ≡ 3 * r → ⊥) → get_or sources₂ i 0 ≡ get_or sources₁ i 0
    reads_same i h = ap (λ (l : List ℕ). get_or l i 0) se ∙ get_or-set_other sources₁ (3 * r) i before 0 h

    pub puts_more : PutsTo s from lead origin count start (done + 1) owners late sources owners₂ late₂ sources₂
    puts_more = record {
      owner = λ k l m. ⊎_elim (λ y. owners_same (start + k) (λ e. omega arith) ∙ t.owner k y m)
          (λ y. let e : start + k ≡ r = omega arith in ap (λ (i : ℕ). get_or owners₂ i 0) e ∙ ap (λ (l : List ℕ). get_or l r 0) oe ∙ get_or-set_same owners₁ r s 0 (omega arith)) (lt-suc_split (let z : k < suc done = omega arith in z));
      clock = λ k l m. ⊎_elim (λ y. late_same (start + k) (λ e. omega arith) ∙ t.clock k y m)
          (λ y. let e : start + k ≡ r = omega arith in ap (λ (i : ℕ). get_or late₂ i 0) e ∙ ap (λ (l : List ℕ). get_or l r 0) le ∙ get_or-set_same late₁ r clock 0 (omega arith) ∙ ce ∙ ap (λ (i : ℕ). asked_clock origin (lead + (count - suc i))) (sym y)) (lt-suc_split (let z : k < suc done = omega arith in z));
      reads = λ k l m. ⊎_elim (λ y. reads_same (3 * (start + k)) (λ e. omega arith) ∙ t.reads k y m)
          (λ y. let e : 3 * (start + k) ≡ 3 * r = omega arith in ap (λ (i : ℕ). get_or sources₂ i 0) e ∙ ap (λ (l : List ℕ). get_or l (3 * r) 0) se ∙ get_or-set_same sources₁ (3 * r) before 0 (omega arith) ∙ be ∙ ap (behind from start) (sym y)) (lt-suc_split (let z : k < suc done = omega arith in z));
      owners_before = λ i l. owners_same i (λ e. omega arith) ∙ t.owners_before i l;
      late_before = λ i l. late_same i (λ e. omega arith) ∙ t.late_before i l;
      late-after = λ i l. late_same i (λ e. omega arith) ∙ t.late-after i (omega arith);
      sources_before = λ i l. reads_same i (λ e. omega arith) ∙ t.sources_before i l;
    }

pub behind_next : (from start t : ℕ) → start + t ≡ behind from start (t + 1)
behind_next from start t = ap (behind from start) (let e : suc t ≡ t + 1 = omega arith in e)

pub behind_last : (from start count : ℕ) → 0 < count → start + count - 1 ≡ behind from start count
behind_last from start zero h = absurd (not-suc-le-zero h)
behind_last from start (suc t) h = omega arith

pub puts_as : {s s' from lead origin count start done : ℕ} {o l r o' l' r' : List ℕ} → s ≡ s' → PutsTo s from lead origin count start done o l r o' l' r' → PutsTo s' from lead origin count start done o l r o' l' r'
puts_as {s} {s'} {from} {lead} {origin} {count} {start} {done} {o} {l} {r} {o'} {l'} {r'} e t = subst (λ (v : ℕ). PutsTo v from lead origin count start done o l r o' l' r') e t

-- ---- in the plan's area

pub register_put : (l : List ℕ) (r s clock before : ℕ) → r < 1024 → RegisterPut l (set (set (set l r s) (2048 + r) clock) (4096 + 3 * r) before) r s clock before
register_put l r s clock before h =
    let m : List ℕ = set l r s in
    let k : List ℕ = set m (2048 + r) clock in
    record {
      owners = section-after 0 1024 k (4096 + 3 * r) before (omega arith) ∙ section-after 0 1024 m (2048 + r) clock (omega arith)
          ∙ ap (λ (i : ℕ). section 0 1024 (set l i s)) (let e : r ≡ 0 + r = omega arith in e) ∙ section-put 0 1024 l r s h;
      late = section-after 2048 1024 k (4096 + 3 * r) before (omega arith) ∙ section-put 2048 1024 m r clock h ∙ ap (λ (w : List ℕ). set w r clock) (section_before 2048 1024 l r s (omega arith));
      sources = section-put 4096 3072 k (3 * r) before (omega arith)
          ∙ ap (λ (w : List ℕ). set w (3 * r) before) (section_before 4096 3072 m (2048 + r) clock (omega arith) ∙ section_before 4096 3072 l r s (omega arith));
      words = section-after 1024 1024 k (4096 + 3 * r) before (omega arith) ∙ section-after 1024 1024 m (2048 + r) clock (omega arith) ∙ section_before 1024 1024 l r s (omega arith);
      firsts = section-after 3072 1024 k (4096 + 3 * r) before (omega arith) ∙ section_before 3072 1024 m (2048 + r) clock (omega arith) ∙ section_before 3072 1024 l r s (omega arith);
    }

-- there is no room for it
pub register_past : (l : List ℕ) (r s clock before : ℕ) → 1024 ≤ r → length l ≡ 7168 → RegisterPut l l r s clock before
register_past l r s clock before h long = record {
  owners = sym (set_out (owners_in l) r s (omega (arith, section-length 0 1024 l (omega arith))));
  late = sym (set_out (late_in l) r clock (omega (arith, section-length 2048 1024 l (omega arith))));
  sources = sym (set_out (sources_in l) (3 * r) before (omega (arith, section-length 4096 3072 l (omega arith))));
  words = refl;
  firsts = refl;
}

-- what an entry reads is put
pub source-put : (l n : List ℕ) (m x : ℕ) → m < 3072 → n ≡ set l (4096 + m) x
    → (sources_in n ≡ set (sources_in l) m x) × (owners_in n ≡ owners_in l) × (words_in n ≡ words_in l) × (late_in n ≡ late_in l) × (firsts_in n ≡ firsts_in l)
source-put l n m x h c = (
  ap (λ (w : List ℕ). sources_in w) c ∙ section-put 4096 3072 l m x h,
  ap (λ (w : List ℕ). owners_in w) c ∙ section-after 0 1024 l (4096 + m) x (omega arith),
  ap (λ (w : List ℕ). words_in w) c ∙ section-after 1024 1024 l (4096 + m) x (omega arith),
  ap (λ (w : List ℕ). late_in w) c ∙ section-after 2048 1024 l (4096 + m) x (omega arith),
  ap (λ (w : List ℕ). firsts_in w) c ∙ section-after 3072 1024 l (4096 + m) x (omega arith),
)

-- one register more
pub puts_next : (l₀ l n : List ℕ) {s from lead origin count start done r clock before : ℕ} → PutsTo s from lead origin count start done (owners_in l₀) (late_in l₀) (sources_in l₀) (owners_in l) (late_in l) (sources_in l)
    → length l ≡ 7168 → r ≡ start + done → clock ≡ asked_clock origin (lead + (count - suc done)) → before ≡ behind from start done → RegisterPut l n r s clock before
    → PutsTo s from lead origin count start (done + 1) (owners_in l₀) (late_in l₀) (sources_in l₀) (owners_in n) (late_in n) (sources_in n)
puts_next l₀ l n t long re ce be p =
    puts_more t (section-length 0 1024 l (omega arith)) (section-length 2048 1024 l (omega arith)) (section-length 4096 3072 l (omega arith)) re ce be p.owners p.late p.sources
