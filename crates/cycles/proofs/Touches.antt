-- A try at one node, and a search from one start, over plain values. Assumes nothing.
use mathlib.Core.Path.{◌≡◌, subst}
use mathlib.Core.Bool.{false}
use mathlib.Core.List.{List}
use Prim.Native.Nat.{ℕ, ◌≤◌, ◌<◌}
use lib.ListN.{get_or}
use Rattle.lists.proofs.BelowLaws.{count_below-le}
use Rattle.netlist.specs.Net.{Class, Net, size, Sourced}
use Rattle.netlist.specs.Reach.{reaches_itself}
use Rattle.order.specs.Pass.{on, swept_rest}
use Rattle.cycles.specs.Spread.{Reached, ReachedPass, start_missed}

module _ (K : Class) (N : Net) where
  pub reached_few : {s k : ℕ} {marks : List ℕ} → Reached K N s marks k → k ≤ size N
  reached_few {s} {k} {marks} r = subst (λ (m : ℕ). m ≤ size N) r.count (count_below-le (λ u. on marks u) (size N))

  -- a round that marked nothing, and left the start unmarked
  pub round_missed : Sourced N → {s k₀ k : ℕ} {marks₀ marks : List ℕ} → ReachedPass K N s marks₀ marks k₀ k (size N) → k ≡ k₀ → s < size N → get_or marks s 0 ≤ 0 → reaches_itself K N s ≡ false
  round_missed sourced {s} {k₀} {k} {marks₀} {marks} w e l h = start_missed K N sourced s marks (swept_rest w e) l h
