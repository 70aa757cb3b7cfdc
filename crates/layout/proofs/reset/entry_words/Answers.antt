-- All are 0, and the first are copied.
use Rattle.std.proofs.Common.{◌∙◌, arith, length-take-le}
use Rattle.layout.specs.EntryWords.{entry-words}
use Rattle.layout.proofs.reset.entry_words.Goals as goal

pub returns : goal.returns
returns c =
    let a = c.args in
    let f = c.fill in
    let k = c.copy_from_slice in
    entry-words a.plan.now c.requires c.told-words (f.ensures.after (λ y q. q)) k.ensures.after
    (k.ensures.len ∙ length-take-le a.entries f.new.self (omega (arith, f.ensures.len, c.told-words)))
