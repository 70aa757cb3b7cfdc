-- The constants and gates of one wire, put one pair after the other. Assumes nothing.
use Rattle.std.specs.Prelude.{◌≡◌, refl, List, ℕ, suc, ◌+◌, ◌*◌, ◌≤◌, ◌<◌, length, get_or, set}
use Rattle.std.proofs.Common.{sym, ap, ◌∙◌, ⊎_elim, not-suc-le-zero, arith, length-set, get_or-set_same, get_or-set_other}
use Rattle.std.proofs.Math.Seq.{set_out}
use Rattle.lists.proofs.BelowLaws.{lt-suc_split}
use Rattle.lists.proofs.Sections.{section-length}
use Rattle.plan.specs.Areas.{owners_in, words_in, late_in, sources_in}
use Rattle.plan.specs.Registers.{RegisterPut}
use Rattle.plan.specs.RegistersPut.{source-put}
use Rattle.steering.specs.GatesTo.{gate_after, PutsPairs}

-- two places next to each other are put
module _ (l : List ℕ) (r a b : ℕ) where
  abbrev pub two_put_of : List ℕ
  two_put_of = set (set l r a) (r + 1) b

  pub two_other : (i : ℕ) → (i ≡ r → ⊥) → (i ≡ r + 1 → ⊥) → get_or two_put_of i 0 ≡ get_or l i 0
  two_other i h k = get_or-set_other (set l r a) (r + 1) i b 0 k ∙ get_or-set_other l r i a 0 h

  pub two_first : r < length l → get_or two_put_of r 0 ≡ a
  two_first h = get_or-set_other (set l r a) (r + 1) r b 0 (λ e. omega arith) ∙ get_or-set_same l r a 0 h

  pub two_second : r + 1 < length l → get_or two_put_of (r + 1) 0 ≡ b
  two_second h = get_or-set_same (set l r a) (r + 1) b 0 (omega (arith, length-set l r a))

-- what a constant and its gate read: the constant nothing, the gate three nodes
module _ (l : List ℕ) (r steer next : ℕ) where
  abbrev pub gate_put : List ℕ
  gate_put = set (set (set (set l (3 * r) 0) (3 * (r + 1)) steer) (3 * (r + 1) + 1) next) (3 * (r + 1) + 2) r

  pub gate_other : (i : ℕ) → i < 3 * r → get_or gate_put i 0 ≡ get_or l i 0
  gate_other i h =
      get_or-set_other (set (set (set l (3 * r) 0) (3 * (r + 1)) steer) (3 * (r + 1) + 1) next) (3 * (r + 1) + 2) i r 0 (λ e. omega arith)
      ∙ get_or-set_other (set (set l (3 * r) 0) (3 * (r + 1)) steer) (3 * (r + 1) + 1) i next 0 (λ e. omega arith)
      ∙ get_or-set_other (set l (3 * r) 0) (3 * (r + 1)) i steer 0 (λ e. omega arith) ∙ get_or-set_other l (3 * r) i 0 0 (λ e. omega arith)

  pub gate_reads : 3 * (r + 1) + 2 < length l → (get_or gate_put (3 * (r + 1)) 0 ≡ steer) × (get_or gate_put (3 * (r + 1) + 1) 0 ≡ next) × (get_or gate_put (3 * (r + 1) + 2) 0 ≡ r)
  gate_reads h =
      let one : List ℕ = set l (3 * r) 0 in
      let two : List ℕ = set one (3 * (r + 1)) steer in
      let three : List ℕ = set two (3 * (r + 1) + 1) next in
      let a : length one ≡ length l = length-set l (3 * r) 0 in
      let b : length two ≡ length one = length-set one (3 * (r + 1)) steer in
      let c : length three ≡ length two = length-set two (3 * (r + 1) + 1) next in (
        get_or-set_other three (3 * (r + 1) + 2) (3 * (r + 1)) r 0 (λ e. omega arith) ∙ get_or-set_other two (3 * (r + 1) + 1) (3 * (r + 1)) next 0 (λ e. omega arith) ∙ get_or-set_same one (3 * (r + 1)) steer 0 (omega arith),
        get_or-set_other three (3 * (r + 1) + 2) (3 * (r + 1) + 1) r 0 (λ e. omega arith) ∙ get_or-set_same two (3 * (r + 1) + 1) next 0 (omega arith),
        get_or-set_same three (3 * (r + 1) + 2) r 0 (omega arith),
      )

module _ {s head clock steer count start : ℕ} {owners late sources : List ℕ} where
  pub pairs_none : PutsPairs s head clock steer count start 0 owners late sources owners late sources
  pairs_none = record {
    owner = λ t l. absurd (not-suc-le-zero l);
    clocks = λ t l. absurd (not-suc-le-zero l);
    reads = λ t l. absurd (not-suc-le-zero l);
    owners_before = λ i l. refl;
    late_before = λ i l. refl;
    late-after = λ i l. refl;
    sources_before = λ i l. refl;
  }

  module _ {done : ℕ} {owners₁ late₁ sources₁ owners₂ late₂ sources₂ : List ℕ} {r time by next : ℕ} (t : PutsPairs s head clock steer count start done owners late sources owners₁ late₁ sources₁)
      (a : length owners₁ ≡ 1024) (b : length late₁ ≡ 1024) (d : length sources₁ ≡ 3072) (re : r ≡ start + 2 * done) (ce : time ≡ clock + done) (be : by ≡ steer + done) (ne : next ≡ gate_after head start count done)
      (oe : owners₂ ≡ two_put_of owners₁ r s s) (le : late₂ ≡ two_put_of late₁ r time 65535) (se : sources₂ ≡ gate_put sources₁ r by next) where
    owners_same : (i : ℕ) → i < r → get_or owners₂ i 0 ≡ get_or owners₁ i 0
    owners_same i h = ap (λ (l : List ℕ). get_or l i 0) oe ∙ two_other owners₁ r s s i (λ e. omega arith) (λ e. omega arith)

    late_same : (i : ℕ) → (i ≡ r → ⊥) → (i ≡ r + 1 → ⊥) → get_or late₂ i 0 ≡ get_or late₁ i 0
    late_same i h k = ap (λ (l : List ℕ). get_or l i 0) le ∙ two_other late₁ r time 65535 i h k

    sources_same : (i : ℕ) → i < 3 * r → get_or sources₂ i 0 ≡ get_or sources₁ i 0
    sources_same i h = ap (λ (l : List ℕ). get_or l i 0) se ∙ gate_other sources₁ r by next i h

    module _ (k : ℕ) (h : k ≡ done) (m : start + 2 * k + 1 < 1024) where
      at : start + 2 * k ≡ r
      at = omega arith

      owner_here : (get_or owners₂ (start + 2 * k) 0 ≡ s) × (get_or owners₂ (start + 2 * k + 1) 0 ≡ s)
      owner_here = (
        ap (λ (i : ℕ). get_or owners₂ i 0) at ∙ ap (λ (l : List ℕ). get_or l r 0) oe ∙ two_first owners₁ r s s (omega arith),
        ap (λ (i : ℕ). get_or owners₂ (i + 1) 0) at ∙ ap (λ (l : List ℕ). get_or l (r + 1) 0) oe ∙ two_second owners₁ r s s (omega arith),
      )

      clocks_here : (get_or late₂ (start + 2 * k) 0 ≡ clock + k) × (get_or late₂ (start + 2 * k + 1) 0 ≡ 65535)
      clocks_here = (
        ap (λ (i : ℕ). get_or late₂ i 0) at ∙ ap (λ (l : List ℕ). get_or l r 0) le ∙ two_first late₁ r time 65535 (omega arith) ∙ omega arith,
        ap (λ (i : ℕ). get_or late₂ (i + 1) 0) at ∙ ap (λ (l : List ℕ). get_or l (r + 1) 0) le ∙ two_second late₁ r time 65535 (omega arith),
      )

      reads_here : (get_or sources₂ (3 * (start + 2 * k + 1)) 0 ≡ steer + k) × (get_or sources₂ (3 * (start + 2 * k + 1) + 1) 0 ≡ gate_after head start count k) × (get_or sources₂ (3 * (start + 2 * k + 1) + 2) 0 ≡ start + 2 * k)
      reads_here =
          let g = gate_reads sources₁ r by next (omega arith) in (
            ap (λ (i : ℕ). get_or sources₂ (3 * (i + 1)) 0) at ∙ ap (λ (l : List ℕ). get_or l (3 * (r + 1)) 0) se ∙ g.0 ∙ omega arith,
            ap (λ (i : ℕ). get_or sources₂ (3 * (i + 1) + 1) 0) at ∙ ap (λ (l : List ℕ). get_or l (3 * (r + 1) + 1) 0) se ∙ g.1 ∙ ne ∙ ap (gate_after head start count) (sym h),
            ap (λ (i : ℕ). get_or sources₂ (3 * (i + 1) + 2) 0) at ∙ ap (λ (l : List ℕ). get_or l (3 * (r + 1) + 2) 0) se ∙ g.2 ∙ sym at,
          )

    pub pairs_more : PutsPairs s head clock steer count start (done + 1) owners late sources owners₂ late₂ sources₂
    pairs_more = record {
      owner = λ k l m. ⊎_elim (λ y. let o = t.owner k y m in (owners_same (start + 2 * k) (omega arith) ∙ o.0, owners_same (start + 2 * k + 1) (omega arith) ∙ o.1)) (λ y. owner_here k y m) (lt-suc_split (let z : k < suc done = omega arith in z));
      clocks = λ k l m. ⊎_elim (λ y. let o = t.clocks k y m in (late_same (start + 2 * k) (λ e. omega arith) (λ e. omega arith) ∙ o.0, late_same (start + 2 * k + 1) (λ e. omega arith) (λ e. omega arith) ∙ o.1)) (λ y. clocks_here k y m)
          (lt-suc_split (let z : k < suc done = omega arith in z));
      reads = λ k l m. ⊎_elim
          (λ y. let o = t.reads k y m in (sources_same (3 * (start + 2 * k + 1)) (omega arith) ∙ o.0, sources_same (3 * (start + 2 * k + 1) + 1) (omega arith) ∙ o.1, sources_same (3 * (start + 2 * k + 1) + 2) (omega arith) ∙ o.2))
          (λ y. reads_here k y m) (lt-suc_split (let z : k < suc done = omega arith in z));
      owners_before = λ i l. owners_same i (omega arith) ∙ t.owners_before i l;
      late_before = λ i l. late_same i (λ e. omega arith) (λ e. omega arith) ∙ t.late_before i l;
      late-after = λ i l. late_same i (λ e. omega arith) (λ e. omega arith) ∙ t.late-after i (omega arith);
      sources_before = λ i l. sources_same i (omega arith) ∙ t.sources_before i l;
    }

-- ---- in the plan's area

-- two registers are put where the constant and its gate stand, and then what else the gate reads
module _ (l m n : List ℕ) (r s clock steer : ℕ) (long : length l ≡ 7168) (p : RegisterPut l m r s clock 0) (q : RegisterPut m n (r + 1) s 65535 steer) where
  owners_two : owners_in n ≡ two_put_of (owners_in l) r s s
  owners_two = q.owners ∙ ap (λ (y : List ℕ). set y (r + 1) s) p.owners

  late_two : late_in n ≡ two_put_of (late_in l) r clock 65535
  late_two = q.late ∙ ap (λ (y : List ℕ). set y (r + 1) 65535) p.late

  sources_two : sources_in n ≡ set (set (sources_in l) (3 * r) 0) (3 * (r + 1)) steer
  sources_two = q.sources ∙ ap (λ (y : List ℕ). set y (3 * (r + 1)) steer) p.sources

  abbrev PairPut : List ℕ → ℕ → Type 0
  PairPut k next = (owners_in k ≡ two_put_of (owners_in l) r s s) × (late_in k ≡ two_put_of (late_in l) r clock 65535) × (sources_in k ≡ gate_put (sources_in l) r steer next) × (words_in k ≡ words_in l)

  pub pair_room : (k k' : List ℕ) (next : ℕ) → r + 1 < 1024 → k ≡ set n (4096 + (3 * (r + 1) + 1)) next → k' ≡ set k (4096 + (3 * (r + 1) + 2)) r → PairPut k' next
  pair_room k k' next h a b =
      let y = source-put n k (3 * (r + 1) + 1) next (omega arith) a in
      let z = source-put k k' (3 * (r + 1) + 2) r (omega arith) b in (
        z.1 ∙ y.1 ∙ owners_two,
        z.3 ∙ y.3 ∙ late_two,
        z.0 ∙ ap (λ (w : List ℕ). set w (3 * (r + 1) + 2) r) (y.0 ∙ ap (λ (w : List ℕ). set w (3 * (r + 1) + 1) next) sources_two),
        z.2 ∙ y.2 ∙ q.words ∙ p.words,
      )

  -- there is no room for the gate
  pub pair_full : (next : ℕ) → 1024 ≤ r + 1 → PairPut n next
  pair_full next h =
      let one : List ℕ = set (sources_in l) (3 * r) 0 in
      let two : List ℕ = set one (3 * (r + 1)) steer in
      let a : length two ≡ 3072 = length-set one (3 * (r + 1)) steer ∙ length-set (sources_in l) (3 * r) 0 ∙ section-length 4096 3072 l (omega arith) in (
        owners_two,
        late_two,
        sources_two ∙ sym (ap (λ (w : List ℕ). set w (3 * (r + 1) + 2) r) (set_out two (3 * (r + 1) + 1) next (omega arith)) ∙ set_out two (3 * (r + 1) + 2) r (omega arith)),
        q.words ∙ p.words,
      )

-- one pair more
pub pairs_next : (l₀ l n : List ℕ) {s head clock steer count start done r time by next : ℕ} → PutsPairs s head clock steer count start done (owners_in l₀) (late_in l₀) (sources_in l₀) (owners_in l) (late_in l) (sources_in l)
    → length l ≡ 7168 → r ≡ start + 2 * done → time ≡ clock + done → by ≡ steer + done → next ≡ gate_after head start count done
    → (owners_in n ≡ two_put_of (owners_in l) r s s) × (late_in n ≡ two_put_of (late_in l) r time 65535) × (sources_in n ≡ gate_put (sources_in l) r by next) × (words_in n ≡ words_in l)
    → PutsPairs s head clock steer count start (done + 1) (owners_in l₀) (late_in l₀) (sources_in l₀) (owners_in n) (late_in n) (sources_in n)
pairs_next l₀ l n t long re ce be ne p =
    pairs_more t (section-length 0 1024 l (omega arith)) (section-length 2048 1024 l (omega arith)) (section-length 4096 3072 l (omega arith)) re ce be ne p.0 p.1 p.2
