-- How a search for the leads of the late start may end: numbers from which no reader asks more, each told by a walk that counts, are the leads. It need not be
-- shown on the way that a number never falls to 0, which would say that no walk counts: the origin is high enough. Assumes nothing.
use Rattle.std.specs.Prelude.{◌≡◌, Bool, true, ℕ, zero, suc, ◌+◌, ◌≤◌, ◌<◌}
use Rattle.std.proofs.Common.{ap, ◌∙◌, ⊎_elim, arith}
use Rattle.lists.proofs.BelowLaws.{lt_or_le, one_le}
use Rattle.netlist.specs.Net.{Net, size, element_at, is_register, Sourced}
use Rattle.netlist.specs.Reach.{Reads}
use Rattle.retiming.specs.Leads.{async_here, register_here, Walk, here, step, leaves, enters, steps}
use Rattle.retiming.specs.LeadsLaws.{Cut}
use Rattle.retiming.proofs.LeadsLaws.{cut}
use Rattle.retiming.proofs.Walks.{reads_inside}
use Rattle.retiming.specs.LateLeads.{origin}
use Rattle.retiming.specs.LateLargest.{Tells}

-- where there is a walk, there is one of fewer steps than nodes
pub short_walk : (N : Net) {u v : ℕ} (k : ℕ) (w : Walk N u v) → u < size N → steps w ≤ k → (z : Walk N u v) × (steps z < size N)
short_walk N zero w h l = (w, omega arith)
short_walk N (suc k) w h l =
    ⊎_elim (λ m. (w, m)) (λ m. let c : Cut N w = cut N w h m in short_walk N k c.rest h (omega (arith, c.shorter))) (lt_or_le (steps w) (size N))

-- what a search leaves: the ends are at the origin at least, no reader asks more, and each number is told by a walk
pub record Searched (N : Net) (ends : ℕ → Bool) (g : ℕ → ℕ) : Type 0 where
  pub from_end : (u : ℕ) → u < size N → ends u ≡ true → origin N ≤ g u
  pub content : {x u : ℕ} → Reads N x u → 0 < g x → async_here N u + g x ≤ g u + register_here N x
  pub told : (u : ℕ) → u < size N → 0 < g u → (v : ℕ) × (w : Walk N u v) × (ends v ≡ true) × (origin N + leaves w ≡ enters w + g u)

module _ (N : Net) (ends : ℕ → Bool) (sourced : Sourced N) (g : ℕ → ℕ) (s : Searched N ends g) where
  register_le : (x : ℕ) → register_here N x ≤ 1
  unfolding register_here
  register_le x = one_le (is_register (element_at N x))

  -- a walk loses no more than its steps
  low : {u v : ℕ} (w : Walk N u v) → u < size N → ends v ≡ true → steps w ≤ size N → origin N ≤ g u + steps w
  unfolding steps origin
  low (here e) h a l = omega (arith, s.from_end _ h (ap ends e ∙ a))
  low (step {x = x} r w) h a l =
      let b = low w r.inside a (omega arith) in
      omega (arith, b, s.content r (omega (arith, b)), register_le x)

  -- so what such a node reads has a number above 0 too
  back : {x u : ℕ} → Reads N x u → 0 < g x → 0 < g u
  unfolding steps origin
  back {x} {u} r pos =
      let t = s.told x r.inside pos in
      let z = short_walk N (steps t.1) t.1 r.inside (omega arith) in
      omega (arith, low (step r z.0) (reads_inside sourced r) t.2 (omega (arith, z.1)), z.1)

  pub searched_tells : Tells N ends g
  searched_tells = record { from_end = s.from_end; serves = λ r pos. (back r pos, s.content r pos); told = s.told }
