-- Ranks that fall rule rings out; where they do not the search tells.
use mathlib.Core.Path.{◌∙◌}
use Rattle.netlist.specs.Net.{in_registers}
use Rattle.cycles.specs.CycleLaws.{none_ranked}
use Rattle.cycles.proofs.rings.lowest_ring.Goals as goal

pub returns-then-ranked : goal.returns-then-ranked
returns-then-ranked c =
    let a = c.args in
    c.node_count.ensures.count ∙ none_ranked in_registers a.net.now.net c.requires _ (c.ranked.ensures c.if-ranked.true)
