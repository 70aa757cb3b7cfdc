-- The loop's invariant: the first v nodes are traced.
use mathlib.Core.Path.{◌∙◌}
use Rattle.wires.specs.TracedLaws.{traced_next}
use Rattle.wires.proofs.find_roots.Goals as goal

pub loop-v-preserved : goal.loop-v-preserved
loop-v-preserved c =
    let k = c.loop-v.invariant in
    let t = c.trace in
    (traced_next k.0 t.ensures.half t.ensures.more, t.ensures.leads ∙ k.1)
