-- Numbers on their way to the leads, counted from the origin: each is the excess of some walk that counts, and a step of the netlist raises its source's to what its
-- reader asks. Which walks count is told by where they end, and nobody on the way asks where that is. Assumes nothing.
use Rattle.std.specs.Prelude.{◌≡◌, Bool, true, cond, List, ℕ, ◌+◌, ◌-◌, ◌≤◌, ◌<◌, length, get_or, set}
use Rattle.std.proofs.Math.Path.{refl}
use Rattle.std.proofs.Common.{sym, ap, subst, ◌∙◌, ⊎_elim, arith}
use Rattle.lists.proofs.BelowLaws.{true_or_false}
use Rattle.netlist.specs.Net.{Net, size, element_at, source, operands}
use Rattle.retiming.specs.Leads.{async_here, register_here, Walk, here, step, leaves, enters}
use Rattle.retiming.proofs.Elements.{async_le}
use Rattle.retiming.specs.LateLeads.{origin, first_lead}
use Rattle.leads.specs.Slack.{slack, slack-set}
use Rattle.leads.specs.Stored.{after-set}

-- some walk from u that counts has the excess k, counted from the origin
abbrev pub Excess : Net → (ℕ → Bool) → ℕ → ℕ → Type 0
Excess N ends u k = (v : ℕ) × (w : Walk N u v) × (ends v ≡ true) × (origin N + leaves w ≡ enters w + k)

-- each node's number is that of some walk from it, or 0; and where a walk may end it is no lower than that of the empty walk
pub record Walked (N : Net) (ends : ℕ → Bool) (L : List ℕ) : Type 0 where
  pub from_end : (u : ℕ) → u < size N → ends u ≡ true → origin N ≤ get_or L u 0
  pub told : (u : ℕ) → u < size N → 0 < get_or L u 0 → Excess N ends u (get_or L u 0)

-- and so they are still, wherever walks may end
abbrev pub StillWalked : Net → List ℕ → List ℕ → Type 0
StillWalked N L₀ L = (ends : ℕ → Bool) → Walked N ends L₀ → Walked N ends L

-- reader x, whose own number is k, asks no more of its operand p
abbrev pub Served : Net → ℕ → ℕ → List ℕ → ℕ → Type 0
Served N x k L p = async_here N (source N x p) + k ≤ get_or L (source N x p) 0 + register_here N x

-- nor of any of its first p operands
abbrev pub ServedTo : Net → ℕ → ℕ → ℕ → List ℕ → Type 0
ServedTo N x k p L = (q : ℕ) → q < p → Served N x k L q

-- nor of any at all, by the numbers as they stand. (At 0 no walk counts, and over the bound a number shows a closed debt: they ask nothing.)
abbrev pub Content : Net → ℕ → ℕ → List ℕ → Type 0
Content N bound x L = 0 < get_or L x 0 → get_or L x 0 ≤ bound → ServedTo N x (get_or L x 0) (operands (element_at N x)) L

-- the first i readers ask no more
abbrev pub Quiet : Net → ℕ → ℕ → List ℕ → Type 0
Quiet N bound i L = (x : ℕ) → x < i → Content N bound x L

-- the number of u where due - taken is asked of it: it is enough, or lifted to that
pub data Raise (L : List ℕ) (u due taken : ℕ) : List ℕ → ℕ → Type 0 where
  enough : due ≤ get_or L u 0 + taken → Raise L u due taken L 0
  lifted : get_or L u 0 + taken < due → Raise L u due taken (set L u (due - taken)) 1

-- how much the numbers can still be raised, all told: none is raised further than one over the bound
abbrev pub left : ℕ → List ℕ → ℕ
left bound L = slack (bound + 1) L

-- from L₀ to L with k raises; where there was none, all that was to be done is done
pub record Progress (N : Net) (bound : ℕ) (L₀ L : List ℕ) (k : ℕ) (Done : List ℕ → Type 0) : Type 0 where
  pub walked : StillWalked N L₀ L
  pub falls : k + left bound L ≤ left bound L₀
  pub still : k ≡ 0 → (L ≡ L₀) × Done L₀

-- the empty walks
pub walked_first : (N : Net) (ends : ℕ → Bool) {L : List ℕ} → ((v : ℕ) → v < size N → get_or L v 0 ≡ first_lead N ends v) → Walked N ends L
unfolding leaves enters first_lead
walked_first N ends {L} f = record {
  from_end = λ u l e. omega (arith, first l e);
  told = λ u l pos. ⊎_elim (λ e. (u, here refl, e, omega (arith, first l e))) (λ e. absurd (omega (arith, first l e))) (true_or_false (ends u));
}
  where
    first : {u : ℕ} {b : Bool} → u < size N → ends u ≡ b → get_or L u 0 ≡ cond b (origin N) 0
    first {u} l e = f u l ∙ ap (λ (b : Bool). cond b (origin N) 0) e

module _ (N : Net) (bound : ℕ) where
  module _ {L : List ℕ} {D : List ℕ → Type 0} where
    pub progress_none : D L → Progress N bound L L 0 D
    progress_none d = record { walked = λ ends w. w; falls = omega arith; still = λ _. (refl, d) }

  module _ {L₀ L : List ℕ} {k : ℕ} {D : List ℕ → Type 0} (t : Progress N bound L₀ L k D) where
    pub progress_map : {E : List ℕ → Type 0} → (D L₀ → E L₀) → Progress N bound L₀ L k E
    progress_map f = record { walked = t.walked; falls = t.falls; still = λ e. let s = t.still e in (s.0, f s.1) }

    pub progress_more : {M : List ℕ} {j : ℕ} {E F : List ℕ → Type 0} → Progress N bound L M j E → (D L₀ → E L₀ → F L₀) → Progress N bound L₀ M (k + j) F
    progress_more {M} {j} {E} {F} s f = record {
      walked = λ ends w. s.walked ends (t.walked ends w);
      falls = let a = t.falls in let b = s.falls in omega arith;
      still = λ e. both (t.still (omega arith)) (s.still (omega arith));
    }
      where
        both : (L ≡ L₀) × D L₀ → (M ≡ L) × E L → (M ≡ L₀) × F L₀
        both (p, d) (q, e) = (q ∙ p, f d (subst E p e))

  -- ---- one operand of one reader

  module _ (x p own : ℕ) (h : x < size N) (q : p < operands (element_at N x)) (s : source N x p < size N) where
    -- what the reader asks of the operand's source
    abbrev to : ℕ
    to = (async_here N (source N x p) + own) - register_here N x

    -- a step more: the walk goes from the source through its reader
    longer : {ends : ℕ → Bool} → register_here N x ≤ async_here N (source N x p) + own → Excess N ends x own → Excess N ends (source N x p) to
    unfolding leaves enters
    longer l w = (w.0, step (record { operand = p; inside = h; used = q; from = refl }) w.1, w.2, omega (arith, w.3))

    module _ {L₀ L : List ℕ} (room : size N ≤ length L) (asks : 0 < own) (fits : own ≤ bound) (is : own ≡ get_or L₀ x 0) {k : ℕ} {D : List ℕ → Type 0} (t : Progress N bound L₀ L k D) where
      walked_lifted : get_or L (source N x p) 0 + register_here N x < async_here N (source N x p) + own → StillWalked N L₀ (set L (source N x p) to)
      walked_lifted l ends w =
          let m : Walked N ends L = t.walked ends w in
          let e : Excess N ends x own = subst (Excess N ends x) (sym is) (w.told x h (omega arith)) in
          record {
            from_end = λ u i. after-set (λ v n. ends v ≡ true → origin N ≤ n) L (source N x p) to (omega arith) (λ a. omega (arith, m.from_end (source N x p) s a)) u (m.from_end u i);
            told = λ u i. after-set (λ v n. 0 < n → Excess N ends v n) L (source N x p) to (omega arith) (λ a. longer (omega arith) e) u (m.told u i);
          }

      -- the number of the operand's source is lifted as far as its reader asks, or is enough
      pub raised_more : {M : List ℕ} {u due taken j : ℕ} {F : List ℕ → Type 0} → u ≡ source N x p → due ≡ async_here N (source N x p) + own → taken ≡ register_here N x
          → Raise L u due taken M j → (D L₀ → Served N x own L₀ p → F L₀) → Progress N bound L₀ M (k + j) F
      raised_more {M} {u} {due} {taken} {j} {F} e d c r f = told (subst (λ (v : ℕ). Raise L v (async_here N (source N x p) + own) (register_here N x) M j) e (subst (λ (a : ℕ). Raise L u a (register_here N x) M j) d (subst (λ (b : ℕ). Raise L u due b M j) c r)))
        where
          told : {M : List ℕ} {j : ℕ} → Raise L (source N x p) (async_here N (source N x p) + own) (register_here N x) M j → Progress N bound L₀ M (k + j) F
          told (enough l) = record {
            walked = t.walked;
            falls = let a = t.falls in omega arith;
            still = λ z. let o = t.still (omega arith) in (o.0, f o.1 (subst (λ (m : List ℕ). Served N x own m p) o.0 l));
          }
          told (lifted l) = record {
            walked = walked_lifted l;
            falls = let a = t.falls in omega (arith, slack-set (bound + 1) L (source N x p) to (omega arith) (omega arith) (omega (arith, async_le N (source N x p))));
            still = λ z. absurd (omega arith);
          }
