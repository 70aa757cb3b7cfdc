-- By the node's kind.
use Rattle.evaluate.proofs.ByCode.{next_address}
use Rattle.evaluate.proofs.next_word.Goals as goal

pub memory_word-requires-clause-address : goal.memory_word-requires-clause-address
memory_word-requires-clause-address c = next_address _ c.args.words.now _ c.requires.holds c.at_or-word.ensures c.source.ensures.source c.requires.formed c.requires.node c.requires.fit
