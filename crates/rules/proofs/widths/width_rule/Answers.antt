-- A ROM, a part, or by the code.
use mathlib.Core.Path.{refl, ap, ◌∙◌}
use Prim.Native.Nat.{ℕ}
use native.Mathlib.Omega.{arith}
use Rattle.netlist.specs.Net.{element_at, width_at, source}
use Rattle.netlist.specs.Verdict.{widths_right}
use Rattle.rules.proofs.WidthLaws.{node_sided}
use Rattle.rules.proofs.widths.width_rule.Goals as goal

pub returns-then-code-lt-AND : goal.returns-then-code-lt-AND
returns-then-code-lt-AND c =
    let a = c.args in
    let N = a.net.now.net in
    let e = element_at N a.v in
    let ws : ℕ → ℕ = λ p. width_at N (source N a.v p) in
    let first = c.width_at-a.ensures ∙ ap (width_at N) c.source.ensures.source in
    node_sided N.tables e _ ws first refl refl c.code-code.ensures.code (λ q. omega arith) (λ q. omega arith) (λ q. omega arith) (λ q. omega (arith, q, c.if-code-lt-AND.true)) (c.lone_widths.ensures (ws 1) (ws 2))
    ∙ ap (λ (k : ℕ). widths_right N.tables e k ws) c.width-w.ensures.width
