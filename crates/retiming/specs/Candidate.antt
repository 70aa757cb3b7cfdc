-- What each spot of the rewritten netlist should carry, from a behaviour of the old one: a rewritten element gives it, and each wire carries it, by its gates where
-- its source is late. Assumes nothing.
use Rattle.std.specs.Prelude.{◌≡◌, ◌⊎◌, false, cond, [], ◌∷◌, get_or}
use Rattle.std.proofs.Math.Bool.{true}
use Prim.Native.Nat.{ℕ, ◌+◌, ◌-◌, ◌≤◌, ◌<◌, max}
use Rattle.std.proofs.Math.Dec.{ltb}
use Rattle.lists.specs.Lists.{one}
use Rattle.netlist.specs.Net.{Net, size, element_at, source, operands, delayed, is_input, is_output, Behaves, Sourced, RegistersFit}
use Rattle.netlist.specs.Reach.{Reads}
use Rattle.retiming.specs.Rewrite.{Timing, word_from, old_on, Place, Entry, Reg, root, own_here, memory_at, reset_word}
use Rattle.retiming.specs.Gates.{Spot, Old, One, Chain, Shown, Pick, first_on, gated_source}
use Rattle.netlist.specs.Rank.{Settles}
use Rattle.retiming.specs.Wires.{ServesKept, Rooted}
use Rattle.retiming.specs.Layout.{Stands}

-- leads, and a choice of nodes that stay, that may serve a netlist that has passed the checks
pub record Retimes (N : Net) (f : Timing) : Type 0 where
  pub sourced : Sourced N
  pub settles : Settles N
  pub fit : RegistersFit N
  pub rooted : Rooted N
  pub serves : ServesKept N f
  pub inputs : (v : ℕ) → v < size N → is_input (element_at N v) ≡ true → f.lead v ≡ f.origin
  pub outputs : (v : ℕ) → v < size N → is_output (element_at N v) ≡ true → f.lead v ≡ f.origin
  pub inputs_stay : (v : ℕ) → v < size N → is_input (element_at N v) ≡ true → f.keeps v ≡ true
  pub outputs_stay : (v : ℕ) → v < size N → is_output (element_at N v) ≡ true → f.keeps v ≡ true
  pub read : (v : ℕ) → v < size N → f.keeps v ≡ true → is_input (element_at N v) ≡ false → is_output (element_at N v) ≡ false → (x : ℕ) × Reads N x v × (f.keeps x ≡ true)

-- what a place carries: the word of the old netlist, as many clocks early as the lead says
unfoldable pub value : Net → Timing → (ℕ → ℕ → ℕ) → (ℕ → ℕ → ℕ) → ℕ → Place → ℕ
value N f Z B t (Entry u c) = cond (memory_at N u) (delayed c (λ s. B ((s + (own_here N u + f.lead u)) - f.origin) u) t) (B ((t + f.lead u) - f.origin) u)
value N f Z B t (Reg x c p j) = word_from f.origin B (t + (j + f.lead x)) (source N x p)

-- what a spot carries: the constant 1 and the chain that fills with it; the k-th gate of a wire the old word of its clock until that is over, and then the present one
unfoldable pub spot_value : Net → Timing → (ℕ → ℕ → ℕ) → (ℕ → ℕ → ℕ) → ℕ → Spot → ℕ
spot_value N f Z B t (Old pl) = value N f Z B t pl
spot_value N f Z B t One = 1
spot_value N f Z B t (Chain i) = one (ltb i t)
spot_value N f Z B t (Shown x c p k) = reset_word N f Z x p (first_on N f Z x + k)
spot_value N f Z B t (Pick x c p k) = word_from f.origin B (max t (first_on N f Z x + k) + f.lead x) (source N x p)

-- the words on a wire that are known: the reset words, and those that come from the old netlist's clocks
unfoldable pub Good : Net → Timing → (ℕ → ℕ → ℕ) → ℕ → ℕ → ℕ → Type 0
Good N f Z x p n = (n < old_on N f Z x p + f.lead (root N (source N x p))) ⊎ (f.origin + old_on N f Z x p ≤ n)

-- when it carries it: a late node not before its start
unfoldable pub Valid : Net → Timing → (ℕ → ℕ → ℕ) → ℕ → Place → Type 0
Valid N f Z t (Entry u c) = ((memory_at N u ≡ true) × (t ≡ 0)) ⊎ (f.origin + one (memory_at N u) ≤ t + f.lead u)
Valid N f Z t (Reg x c p j) = Good N f Z x p (t + (j + f.lead x))

unfoldable pub SpotValid : Net → Timing → (ℕ → ℕ → ℕ) → ℕ → Spot → Type 0
SpotValid N f Z t (Old pl) = Valid N f Z t pl
SpotValid N f Z t One = Unit {0}
SpotValid N f Z t (Chain i) = Unit {0}
SpotValid N f Z t (Shown x c p k) = Unit {0}
SpotValid N f Z t (Pick x c p k) = Unit {0}

module _ (N : Net) (f : Timing) (Z : ℕ → ℕ → ℕ) (u c : ℕ) where
  unfoldable pub sources : ℕ → ℕ
  sources p = get_or (gated_source N f Z u c 0 ∷ gated_source N f Z u c 1 ∷ gated_source N f Z u c 2 ∷ []) p 0

-- ---- what is carried along a wire

module _ (N : Net) (f : Timing) (ok : Retimes N f) (ins jns B Z : ℕ → ℕ → ℕ) (hB : Behaves N ins B) (hZ : Behaves N jns Z) where
  module _ (x c p : ℕ) (s : Stands N f Z x c) (q : p < operands (element_at N x)) where
    -- the node at the wire's root
    abbrev pub Carries : ℕ → ℕ → Place → Type 0
    Carries t n pl = Valid N f Z t pl × (value N f Z B t pl ≡ word_from f.origin B n (source N x p))

    abbrev pub SpotCarries : ℕ → ℕ → Spot → Type 0
    SpotCarries t n sp = SpotValid N f Z t sp × (spot_value N f Z B t sp ≡ word_from f.origin B n (source N x p))
