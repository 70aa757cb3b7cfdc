-- By what the code asks for.
use mathlib.Core.Path.{refl, ap, ◌∙◌}
use Prim.Native.Nat.{ℕ}
use native.Mathlib.Omega.{arith}
use Rattle.netlist.specs.Net.{element_at, width_at, source}
use Rattle.rules.proofs.WidthLaws.{node_sided}
use Rattle.rules.proofs.widths.gate_widths.Goals as goal

pub returns-then-code-lt-CHOOSE : goal.returns-then-code-lt-CHOOSE
returns-then-code-lt-CHOOSE c =
    let a = c.args in
    let N = a.net.now.net in
    let e = element_at N a.v in
    let ws : ℕ → ℕ = λ p. width_at N (source N a.v p) in
    let b = c.width_at-b.ensures ∙ ap (width_at N) c.source.ensures.source in
    node_sided N.tables e a.w ws c.requires.width b refl c.requires.code (λ q. omega (arith, q, c.requires.two)) (λ q. omega (arith, q, c.requires.two)) (λ q. omega (arith, q, c.if-code-lt-CHOOSE.true)) (λ q. omega (arith, q, c.if-code-lt-CHOOSE.true)) (c.two_widths.ensures (ws 2))
