-- Three marks, the first again where there are fewer sources.
use native.Mathlib.Omega.{arith}
use Rattle.netlist.specs.Net.{source}
use Rattle.rules.proofs.ReaderLaws.{marked-three}
use Rattle.rules.proofs.readers.mark_sources.Goals as goal

pub returns : goal.returns
returns c = let a = c.args in let N = c.args.net.now.net in marked-three (source N a.x) a.marks.now c.or_first-second.ensures.first c.or_first-third.ensures.first (omega (arith, c.if-n-eq0.false)) c.requires.few c.put.ensures c.source.ensures.source c.put-2.ensures c.source-2.ensures.source c.put-3.ensures c.source-3.ensures.source
