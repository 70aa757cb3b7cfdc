-- The length of a step of the new netlist: what its operand tells, and by how much the word comes earlier. A spot carries the word of its wire's root `ahead` clocks
-- earlier than the old root gave it, less `behind`. Assumes nothing.
use Rattle.std.specs.Prelude.{◌≡◌, Bool, true, false, map}
use Rattle.std.proofs.Math.Path.{refl, ap}
use Rattle.std.proofs.Common.{sym, ◌∙◌, true≢false, not-suc-le-zero}
use Rattle.std.proofs.Math.Logic.{⊎_elim}
use Rattle.std.proofs.lemmas.Bool.{false≢true}
use Prim.Native.Nat.{ℕ, zero, suc, ◌+◌, ◌≤◌, ◌<◌, zero-le}
use native.Mathlib.Omega.{arith}
use Rattle.netlist.specs.declared.Element.{Element}
use Rattle.netlist.specs.declared.Element.TheVariants.{Input, Output, Register, Async, Clocked, Gate}
use Rattle.netlist.specs.declared.Node.{Node}
use Rattle.lists.specs.Lists.{one}
use Rattle.lists.proofs.BelowLaws.{true_or_false, lt_or_le}
use Rattle.netlist.specs.Net.{Net, element_at, source, operands, is_register, is_memory, is_clocked, holds_word}
use Rattle.netlist.proofs.Memories.{memory_kinds}
use Rattle.retiming.specs.Leads.{async_here}
use Rattle.retiming.specs.Rewrite.{Timing, Entry, Reg, root, passed, own_here, memory_at, old_on, count_on, new_table, along, new_element}
use Rattle.retiming.specs.Gates.{Spot, Old, One, Chain, Shown, Pick, shown_on, picked, chained, spot_node}
use Rattle.retiming.specs.Lengths.{pin, came_from}
use Rattle.retiming.specs.Layout.{Stands}
use Rattle.retiming.proofs.LayoutLaws.{along_reg, along-end}
use Rattle.retiming.specs.GatesLayout.{SpotSound}
use Rattle.retiming.proofs.GatesLayout.{picked-gate, picked_wire}
use Rattle.retiming.specs.Candidate.{Retimes}
use Rattle.retiming.proofs.Candidate.{used_new, count_rom, count_other}
use Rattle.retiming.proofs.New.{from}
use Rattle.retiming.proofs.OperandsTell.{weight}

-- ---- elements

holds_kinds : (e : Element) → one (holds_word e) ≡ one (is_register e) + one (is_clocked e)
holds_kinds Input = refl
holds_kinds Output = refl
holds_kinds (Register r) = refl
holds_kinds (Async m) = refl
holds_kinds (Clocked m r) = refl
holds_kinds (Gate o) = refl

-- of the rewritten elements just the memories hold a word
holds_new : (e : Element) (m c : ℕ) → is_register e ≡ false → holds_word (new_element e m c) ≡ is_memory e
holds_new Input m c h = refl
holds_new Output m c h = refl
holds_new (Register r) m c h = absurd (true≢false h)
holds_new (Async n) m c h = refl
holds_new (Clocked n r) m c h = refl
holds_new (Gate o) m c h = refl

-- ---- spots

unfoldable pub ahead : Timing → Spot → ℕ
ahead f (Old (Entry u c)) = f.lead u
ahead f (Old (Reg x c p j)) = j + f.lead x
ahead f One = 0
ahead f (Chain i) = 0
ahead f (Shown x c p k) = 0
ahead f (Pick x c p k) = f.lead x

unfoldable pub behind : Net → Spot → ℕ
behind N (Old (Entry u c)) = async_here N u
behind N (Old (Reg x c p j)) = passed N (source N x p)
behind N One = 0
behind N (Chain i) = 0
behind N (Shown x c p k) = 0
behind N (Pick x c p k) = passed N (source N x p)

-- the chain and the constants carry no such word
unfoldable pub carries : Spot → Bool
carries (Old pl) = true
carries One = false
carries (Chain i) = false
carries (Shown x c p k) = false
carries (Pick x c p k) = true

-- how far down the chain
unfoldable pub rank : Spot → ℕ
rank (Old pl) = 0
rank One = 0
rank (Chain i) = suc i
rank (Shown x c p k) = 0
rank (Pick x c p k) = 0

-- a step into operand p of a spot, from another: what reads a spot that carries a word carries one, and the sum is kept
abbrev pub Account : Net → Timing → Spot → ℕ → Node → Spot → Type 0
Account N f sp p n to = carries to ≡ true → (carries sp ≡ true) × (one (holds_word n.element) + ahead f sp + behind N to ≡ weight N (map (pin p) (came_from sp)) + ahead f to + behind N sp)

-- what carries none reads what carries none, one place up the chain
abbrev pub Idle : Spot → ℕ → Node → Spot → Type 0
Idle sp p n to = carries sp ≡ false → (carries to ≡ false) × (suc (rank to) ≡ rank sp)

module _ (N : Net) (f : Timing) (Z : ℕ → ℕ → ℕ) (ok : Retimes N f) where
  chain_idle : (i : ℕ) → (carries (chained N f Z i) ≡ false) × (rank (chained N f Z i) ≡ i)
  unfolding chained carries rank
  chain_idle zero = (refl, refl)
  chain_idle (suc i) = (refl, refl)

  module _ (x c p : ℕ) (s : Stands N f Z x c) (q : p < operands (element_at N x)) where
    count_wire : count_on N f Z x p + f.lead x + async_here N (root N (source N x p)) ≡ passed N (source N x p) + f.lead (root N (source N x p))
    unfolding async_here memory_at old_on own_here
    count_wire =
        let u : ℕ = root N (source N x p) in
        ⊎_elim (λ t. omega (arith, count_rom N f Z ok x c p s q t, memory_kinds (element_at N u), ap one t)) (λ t. omega (arith, (count_other N f Z ok x c p s q t).0, memory_kinds (element_at N u), ap one t))
        (true_or_false (is_memory (element_at N u)))

    on_wire : (j : ℕ) → j ≤ count_on N f Z x p → ahead f (Old (along N f Z x c p j)) + passed N (source N x p) ≡ j + f.lead x + behind N (Old (along N f Z x c p j))
    unfolding ahead behind
    on_wire j l =
        ⊎_elim (λ k. rw (along_reg N f Z x c p j k) refl) (λ k. rw (along-end N f Z x c p j k) (omega (arith, count_wire))) (lt_or_le j (count_on N f Z x p))

    at_gates : (k : ℕ) → (carries (picked N f Z x c p k) ≡ true) × (ahead f (picked N f Z x c p k) + passed N (source N x p) ≡ f.lead x + behind N (picked N f Z x c p k))
    unfolding ahead behind carries
    at_gates k =
        ⊎_elim (λ l. rw (picked-gate N f Z x c p k l) (refl, refl)) (λ l. rw (picked_wire N f Z x c p k l) (refl, omega (arith, on_wire 0 zero-le))) (lt_or_le k (shown_on N f Z x p))

  pub account : (sp : Spot) (s : SpotSound N f Z sp) (p : ℕ) (q : p < operands (spot_node N f Z sp).element) → Account N f sp p (spot_node N f Z sp) (from N f Z ok sp s p q).spot
  unfolding spot_node from weight pin carries ahead behind async_here
  account (Old (Entry x c)) s p q h = (
    refl,
    omega (
      arith,
      (at_gates x c p s (used_new N f Z x c p q) 0).1,
      ap one (holds_new (element_at N x) (new_table N f Z x) c s.other),
      memory_kinds (element_at N x),
      holds_kinds (element_at N x),
      ap one s.other,
    ),
  )
  account (Old (Reg x c p j)) (s, q, l) zero k h = (refl, omega (arith, on_wire x c p s q (suc j) l))
  account (Old (Reg x c p j)) (s, q, l) (suc r) k h = absurd (omega arith)
  account One s p q h = absurd (not-suc-le-zero q)
  account (Chain i) s zero q h = absurd (false≢true (sym (chain_idle i).0 ∙ h))
  account (Chain i) s (suc r) q h = absurd (omega arith)
  account (Shown x c p k) s r q h = absurd (not-suc-le-zero q)
  account (Pick x c p k) (s, q, l) zero r h = absurd (false≢true h)
  account (Pick x c p k) (s, q, l) (suc zero) r h = (refl, omega (arith, (at_gates x c p s q (suc k)).1))
  account (Pick x c p k) (s, q, l) (suc (suc zero)) r h = absurd (false≢true h)
  account (Pick x c p k) (s, q, l) (suc (suc (suc m))) r h = absurd (omega arith)

  pub idle : (sp : Spot) (s : SpotSound N f Z sp) (p : ℕ) (q : p < operands (spot_node N f Z sp).element) → Idle sp p (spot_node N f Z sp) (from N f Z ok sp s p q).spot
  unfolding spot_node from carries rank
  idle (Old pl) s p q h = absurd (true≢false h)
  idle One s p q h = absurd (not-suc-le-zero q)
  idle (Chain i) s zero q h = ((chain_idle i).0, ap suc (chain_idle i).1)
  idle (Chain i) s (suc r) q h = absurd (omega arith)
  idle (Shown x c p k) s r q h = absurd (not-suc-le-zero q)
  idle (Pick x c p k) s r q h = absurd (true≢false h)
