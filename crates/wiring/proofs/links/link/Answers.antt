-- Linked, or past a wire without a clock.
use mathlib.Core.Path.{refl, ap, ◌∙◌}
use mathlib.Core.List.{List}
use Prim.Native.Nat.{ℕ, ◌+◌}
use native.Mathlib.Omega.{arith}
use lib.ListN.{get_or, set}
use Rattle.lists.proofs.Sections.{section-read}
use Rattle.wiring.specs.Wiring.{ends_in}
use Rattle.wiring.specs.Links.{linked_past, linked_put, ends_kept}
use Rattle.wiring.proofs.links.link.Goals as goal

pub returns-then-wires-k-lt-NONE-clause-linked : goal.returns-then-wires-k-lt-NONE-clause-linked
returns-then-wires-k-lt-NONE-clause-linked c =
    let w : List ℕ = c.args.wires.now in
    let k : ℕ = c.args.k in
    linked_put w c.requires.count c.requires.wire c.told-wires refl (c.put.ensures ∙ ap (λ (x : ℕ). set (set w (6144 + k) x) (9216 + get_or w (0 + k) 0) k) c.at_or.ensures) c.if-wires-k-lt-NONE.true

pub returns-then-wires-k-lt-NONE-clause-ends : goal.returns-then-wires-k-lt-NONE-clause-ends
returns-then-wires-k-lt-NONE-clause-ends c =
    let w : List ℕ = c.args.wires.now in
    let k : ℕ = c.args.k in
    ends_kept w c.requires.count c.requires.wire c.told-wires refl (c.put.ensures ∙ ap (λ (x : ℕ). set (set w (6144 + k) x) (9216 + get_or w (0 + k) 0) k) c.at_or.ensures)

pub returns-else-wires-k-lt-NONE-clause-linked : goal.returns-else-wires-k-lt-NONE-clause-linked
returns-else-wires-k-lt-NONE-clause-linked c =
    λ clocks s. linked_past (ends_in c.args.wires.now) clocks c.args.count c.requires.wire s (omega (arith, section-read 6144 3072 c.args.wires.now c.args.k (omega arith), c.if-wires-k-lt-NONE.false))
