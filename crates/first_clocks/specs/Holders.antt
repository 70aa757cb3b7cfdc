-- Where a node's word of a clock stands already at an earlier one: further back on its wire. Assumes nothing.
use Rattle.std.specs.Prelude.{◌≡◌, true, ℕ, suc, ◌+◌, ◌<◌, Option, IfSome}
use Rattle.std.proofs.Math.Path.{ap}
use Rattle.std.proofs.Common.{◌∙◌, ⊎_elim, zero-add}
use mathlib.Core.List.{[]}
use native.Mathlib.Omega.{arith}
use Rattle.std.proofs.Math.ListN.{get_or}
use Rattle.lists.proofs.BelowLaws.{true_or_false}
use Rattle.netlist.specs.Net.{Net, size, element_at, source, is_register}
use Rattle.netlist.specs.Checks.{WellFormed}
use Rattle.behaviour.specs.Run.{zero_word}
use Rattle.retiming.specs.Rewrite.{root, passed}
use Rattle.retiming.specs.Wires.{Rooted}
use Rattle.retiming.proofs.Wires.{ringless_rooted, root_within, wire_next, wire_none, behind, register_after, delay}
use Rattle.first_clocks.specs.ZeroRun.{behaves}
use Rattle.first_clocks.specs.declared.holders.Held.{Held}

-- node u stands so many registers back from v on its wire, and had the words of v as many clocks before
pub record Holder (N : Net) (v back u : ℕ) : Type 0 where
  pub inside : u < size N
  pub along : passed N v ≡ back + passed N u
  pub same : (t : ℕ) → zero_word N (back + t) v ≡ zero_word N t u

-- the last one that was found, where there is one
abbrev pub Remembered : Net → Option Held → Type 0
Remembered N last = IfSome last (λ h. Holder N h.node h.back h.holder)

pub holder_none : (N : Net) (v : ℕ) → v < size N → Holder N v 0 v
holder_none N v h = record { inside = h; along = omega arith; same = λ t. ap (λ (s : ℕ). zero_word N s v) (zero-add t) }

module _ (N : Net) (wf : WellFormed N) where
  rooted : Rooted N
  rooted = ringless_rooted N wf.sourced wf.no_ring

  -- the root is behind all registers of its wire
  pub holder_root : (v : ℕ) → v < size N → Holder N v (passed N v) (root N v)
  unfolding Rooted
  holder_root v h = record {
    inside = root_within N wf.sourced v h;
    along = omega (arith, (wire_none N (root N v) (rooted v h)).1);
    same = λ t. ap (λ (s : ℕ). zero_word N s v) (let e : passed N v + t ≡ t + passed N v = omega arith in e) ∙ delay N wf.sourced (λ s port. get_or [] port 0) (zero_word N) (behaves N wf) v h t;
  }

  -- a register further
  pub holder_more : {v back u : ℕ} → Holder N v back u → back < passed N v → Holder N v (back + 1) (source N u 0)
  holder_more {v} {back} {u} b l = ⊎_elim register (λ e. absurd (omega (arith, (wire_none N u e).1, b.along))) (true_or_false (is_register (element_at N u)))
    where
      register : is_register (element_at N u) ≡ true → Holder N v (back + 1) (source N u 0)
      register e = record {
        inside = behind N wf.sourced u b.inside e;
        along = omega (arith, b.along, (wire_next N rooted u b.inside e).1);
        same = λ t. ap (λ (s : ℕ). zero_word N s v) (let q : back + 1 + t ≡ back + suc t = omega arith in q) ∙ b.same (suc t)
            ∙ register_after N wf.sourced (λ s port. get_or [] port 0) (zero_word N) (behaves N wf) u t b.inside e;
      }
