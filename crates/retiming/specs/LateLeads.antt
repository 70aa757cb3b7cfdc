-- Leads of the late start: document 02, T-05. A walk counts where it ends at an output port. Assumes nothing.
use Rattle.std.specs.Prelude.{◌≡◌, Bool, true, cond, not, ◌&&◌, List, map, ℕ, zero, suc, ◌+◌, ◌-◌, max, get_or, ltb}
use Rattle.lists.specs.Lists.{below, iterate, any_below, largest, same}
use Rattle.netlist.specs.Net.{Net, size, element_at, is_input, is_output}
use Rattle.netlist.specs.Reach.{reads_test}
use Rattle.retiming.specs.Leads.{async_here, register_here, Walk}

-- "the largest excess of a walk from it to an output port": where a walk that counts may end
unfoldable pub at_output : Net → ℕ → Bool
at_output N v = is_output (element_at N v)

unfoldable pub late_ends : Net → ℕ → Bool
late_ends N v = at_output N v

-- There are no signed numbers: leads are counted from an origin above what a walk without repetition can lose. `origin` is the lead 0, and 0 says that no walk counts
unfoldable pub origin : Net → ℕ
origin N = suc (suc (size N))

-- one step more: where no walk counts, none does with it either
unfoldable pub onward : ℕ → ℕ → ℕ → ℕ
onward r q zero = 0
onward r q (suc y) = (r + suc y) - q

module _ (N : Net) (ends : ℕ → Bool) where
  -- a walk that counts, from u
  pub record Counts (u : ℕ) : Type 0 where
    pub end : ℕ
    pub walk : Walk N u end
    pub ending : ends end ≡ true

  -- the empty walk
  unfoldable pub first_lead : ℕ → ℕ
  first_lead v = cond (ends v) (origin N) 0

  -- what reader x asks of u where the numbers so far are f
  unfoldable pub asked_to : (ℕ → ℕ) → ℕ → ℕ → ℕ
  asked_to f u x = cond (reads_test N x u) (onward (async_here N u) (register_here N x) (f x)) 0

  unfoldable pub relax_to : List ℕ → List ℕ
  relax_to f = map (λ u. max (first_lead u) (largest (size N) (asked_to (λ x. get_or f x 0) u))) (below (size N))

  unfoldable pub leads_to_after : ℕ → List ℕ
  leads_to_after k = iterate k relax_to (map first_lead (below (size N)))

  unfoldable pub leads_to : List ℕ
  leads_to = leads_to_after (size N)

  -- the lead of v, counted from the origin; 0 where no walk counts
  unfoldable pub lead_to : ℕ → ℕ
  lead_to v = get_or leads_to v 0

  -- 11: one more round still changes a lead
  unfoldable pub closed_debt_to : Bool
  closed_debt_to = not (same (relax_to leads_to) leads_to)

  -- 12: an input port with a positive lead
  unfoldable pub owing_port_to : ℕ → Bool
  owing_port_to v = is_input (element_at N v) && ltb (origin N) (lead_to v)

  unfoldable pub port_debt_to : Bool
  port_debt_to = any_below (size N) owing_port_to
