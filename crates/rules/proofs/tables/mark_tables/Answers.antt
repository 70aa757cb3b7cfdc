use mathlib.Core.Path.{refl, sym, ap, subst, ◌∙◌}
use Prim.Native.Nat.{ℕ}
use native.Mathlib.Omega.{arith}
use lib.ListN.{length, set, length-set}
use Rattle.lists.specs.Lists.{one}
use Rattle.rules.proofs.TableLaws.{Marking, marking_none, marking_more, all_marked, nodes-done}
use Rattle.rules.proofs.tables.mark_tables.Goals as goal

pub loop-v-init : goal.loop-v-init
loop-v-init c =
    let a = c.args in
    let N = a.net.now.net in
    let k = c.table_count-left.ensures in
    (refl, subst (λ (j : ℕ). Marking N (set a.marks.now 16 1) 0 j) (sym k.count) (marking_none N c.requires.unmarked (omega (arith, k.count, k.few))))

pub returns-then-left-eq0 : goal.returns-then-left-eq0
returns-then-left-eq0 c =
    let a = c.args in
    let N = a.net.now.net in
    let t = c.loop-v in
    all_marked N (subst (λ (j : ℕ). Marking N t.marks t.v j) c.if-left-eq0.true t.invariant.1) (omega (arith, c.node_count-n.ensures.count, c.loop-v-test.true))

pub loop-v-preserved : goal.loop-v-preserved
loop-v-preserved c =
    let a = c.args in
    let N = a.net.now.net in
    let r = c.table_read in
    let t = c.loop-v in
    let w = c.mark.ensures in
    let more = (marking_more N t.invariant.1 c.requires.tables (omega (arith, c.node_count-n.ensures.count, c.loop-v-test.true)) r.result r.ensures.reads r.ensures.few (ap one w.new)).1 in
    (ap length w.marks ∙ length-set t.marks r.result 1 ∙ t.invariant.0, rw w.marks more)

pub returns : goal.returns
returns c =
    let a = c.args in
    let t = c.loop-v in
    nodes-done a.net.now.net t.invariant.1 (omega (arith, c.node_count-n.ensures.count, c.loop-v-test.false))
