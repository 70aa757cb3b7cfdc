-- The loop's invariant: the wires from k on are linked, and they end where they did.
use mathlib.Core.Path.{◌≡◌, sym, subst, ◌∙◌}
use mathlib.Core.List.{List}
use Prim.Native.Nat.{ℕ, ◌+◌, ◌-◌}
use native.Mathlib.Omega.{arith}
use Rattle.wiring.specs.Wiring.{ends_in, clocks_in, heads_in}
use Rattle.wiring.specs.Links.{LinkedFrom}
use Rattle.wiring.proofs.links.link_wires.Goals as goal

pub loop-k-preserved : goal.loop-k-preserved
loop-k-preserved c =
    let a = c.args in
    let i = c.loop-k.invariant in
    let k : ℕ = c.loop-k.k in
    let l : List ℕ = c.loop-k.wires in
    let n = c.link.new.wires in
    let e : k ≡ k - 1 + 1 = omega (arith, c.loop-k-test.true) in
    let more = c.link.ensures.linked (clocks_in a.wires.now) (subst (λ (y : List ℕ). LinkedFrom y (clocks_in a.wires.now) a.count (heads_in l) (clocks_in l) (k - 1 + 1)) (sym i.1) (subst (LinkedFrom (ends_in a.wires.now) (clocks_in a.wires.now) a.count (heads_in l) (clocks_in l)) e i.0)) in
    (subst (λ (y : List ℕ). LinkedFrom y (clocks_in a.wires.now) a.count (heads_in n) (clocks_in n) (k - 1)) i.1 more, c.link.ensures.ends ∙ i.1)

pub returns-clause-linked : goal.returns-clause-linked
returns-clause-linked c =
    let a = c.args in
    let l : List ℕ = c.loop-k.wires in
    let e : c.loop-k.k ≡ 0 = omega (arith, c.loop-k-test.false) in
    subst (LinkedFrom (ends_in a.wires.now) (clocks_in a.wires.now) a.count (heads_in l) (clocks_in l)) e c.loop-k.invariant.0
