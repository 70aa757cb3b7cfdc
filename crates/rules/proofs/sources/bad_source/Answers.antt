-- By the two laws of check 6 over plain values.
use mathlib.Core.Path.{sym, ◌∙◌}
use Rattle.rules.proofs.SourceLaws.{missing, there}
use Rattle.rules.proofs.sources.bad_source.Goals as goal

pub returns-then-table_missing : goal.returns-then-table_missing
returns-then-table_missing c = c.if-table_missing.true ∙ missing c.args.net.now.net c.args.v (sym c.table_missing.ensures ∙ c.if-table_missing.true)

pub returns-else-table_missing : goal.returns-else-table_missing
returns-else-table_missing c = there c.args.net.now.net c.args.v (sym c.table_missing.ensures ∙ c.if-table_missing.false) c.source_count.result c.source_count.ensures.count _ c.any_no_source.ensures
