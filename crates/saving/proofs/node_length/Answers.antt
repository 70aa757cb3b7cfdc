-- By what the element holds, and how many sources it has.
use Rattle.std.proofs.Common.{ap, ◌∙◌}
use Rattle.saving.specs.Lengths.{own_length, node_length}
use Rattle.saving.proofs.node_length.Goals as goal

pub returns-clause-length : goal.returns-clause-length
returns-clause-length c =
    let own = c.own_length.ensures.own ∙ ap own_length c.element.ensures in
    (node_length _ _ _ c.parts-words.ensures.shown c.args.v c.requires own c.source_count.ensures.count).0
