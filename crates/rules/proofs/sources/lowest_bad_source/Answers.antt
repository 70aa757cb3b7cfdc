use mathlib.Core.Path.{◌≡◌, sym, subst, ◌∙◌}
use Prim.Native.Nat.{ℕ}
use native.Mathlib.Omega.{arith}
use Rattle.lists.proofs.SearchLaws.{passed-more, lowest_here, lowest_past}
use Rattle.netlist.specs.Net.{size}
use Rattle.netlist.specs.Verdict.{bad_source}
use Rattle.rules.specs.Marks.{Marks}
use Rattle.rules.proofs.ReaderLaws.{marks_more}
use Rattle.rules.proofs.sources.lowest_bad_source.Goals as goal

pub returns-then-bad_source-clause-lowest : goal.returns-then-bad_source-clause-lowest
returns-then-bad_source-clause-lowest c =
    let a = c.args in
    let N = a.net.now.net in
    lowest_here (size N) (bad_source N) c.loop-v.v c.loop-v.invariant.1 (omega (arith, c.node_count-n.ensures.count, c.loop-v-test.true)) (sym c.bad_source.ensures ∙ c.if-bad_source.true)

pub returns-then-bad_source-clause-marks : goal.returns-then-bad_source-clause-marks
returns-then-bad_source-clause-marks c =
    let a = c.args in
    let N = a.net.now.net in
    λ q. absurd (omega (arith, q, c.node_count-n.ensures.count, c.loop-v-test.true))

pub loop-v-preserved : goal.loop-v-preserved
loop-v-preserved c =
    let a = c.args in
    let N = a.net.now.net in
    let k = c.loop-v.invariant in
    (c.mark_sources.auto.marks ∙ k.0, passed-more (bad_source N) c.loop-v.v k.1 (sym c.bad_source.ensures ∙ c.if-bad_source.false), marks_more N c.source_count.ensures.count k.2 c.mark_sources.ensures)

pub returns-clause-lowest : goal.returns-clause-lowest
returns-clause-lowest c =
    let a = c.args in
    let N = a.net.now.net in
    let t = c.loop-v in
    let k : t.v ≡ size N = omega (arith, c.node_count-n.ensures.count, c.loop-v-test.false) in
    c.node_count-n.ensures.count ∙ lowest_past (size N) (bad_source N) (λ u h. t.invariant.1 u (omega arith))

pub returns-clause-marks : goal.returns-clause-marks
returns-clause-marks c =
    let a = c.args in
    let N = a.net.now.net in
    let t = c.loop-v in
    let k : t.v ≡ size N = omega (arith, c.node_count-n.ensures.count, c.loop-v-test.false) in
    λ q. subst (λ (j : ℕ). Marks N t.marks j) k t.invariant.2
