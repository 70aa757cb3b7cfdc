-- All nodes stand in order just where none reaches itself; and where they have ranks none does. Assumes nothing.
use Rattle.std.specs.Prelude.{◌≡◌, List, ℕ, ◌<◌}
use Rattle.std.proofs.Common.{sym, ◌∙◌, ⊎_elim, zero-le, arith}
use Rattle.std.proofs.lemmas.Bool.{false≢true}
use Rattle.lists.specs.Lists.{lowest}
use Rattle.lists.proofs.BelowLaws.{true_or_false, lowest_from_is}
use Rattle.lists.proofs.SearchLaws.{Passed, lowest_past}
use Rattle.netlist.specs.Net.{Class, Net, size, Sourced, RankedIn}
use Rattle.netlist.specs.Rank.{Through, once, then}
use Rattle.netlist.proofs.Rank.{no_loop}
use Rattle.netlist.specs.Reach.{reaches_itself}
use Rattle.netlist.proofs.ReachLaws.{reaches_itself_iff}
use Rattle.circuit.specs.Order.{Complete}
use Rattle.order.specs.OrderLaws.{no_loop_in_order}

module _ (K : Class) (N : Net) (sourced : Sourced N) where
  -- where there is no loop the search would find nothing
  no_loops : ((v : ℕ) → v < size N → Through K N v v → ⊥) → size N ≡ lowest (size N) (reaches_itself K N)
  no_loops none = lowest_past (size N) (reaches_itself K N) free
    where
      free : Passed (reaches_itself K N) (size N)
      free v l = ⊎_elim (λ h. absurd (none v l ((reaches_itself_iff K N sourced v l).0 h))) (λ h. h) (true_or_false (reaches_itself K N v))

  -- a rank that falls along each step
  pub none_ranked : (rank : ℕ → ℕ) → RankedIn K N rank → size N ≡ lowest (size N) (reaches_itself K N)
  none_ranked rank r = no_loops (λ v l w. no_loop K N rank r w)

  -- all stand in an order
  pub none_left : {order : List ℕ} → Complete K N order → size N ≡ lowest (size N) (reaches_itself K N)
  none_left c = no_loops (λ v l w. no_loop_in_order K N c.ordered v (c.all v l) w)

  -- a node that reaches itself is a node
  inside : {u v : ℕ} → Through K N u v → v < size N
  inside (once r) = r.inside
  inside (then w r) = r.inside

  -- where one reaches itself the search finds one
  pub some_left : (u : ℕ) × Through K N u u → lowest (size N) (reaches_itself K N) ≡ size N → ⊥
  some_left (u, w) e =
      let l = inside w in
      false≢true (sym ((lowest_from_is (reaches_itself K N) 0 (size N)).none_before u zero-le (omega (arith, l, e))) ∙ (reaches_itself_iff K N sourced u l).1 w)
