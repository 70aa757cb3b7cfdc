-- What is due at clock 0 is taken from the words of the first clock, and what is due later as the clocks run.
use mathlib.Core.List.{List}
use Prim.Native.Nat.{ℕ, ◌+◌, ◌≤◌}
use native.Mathlib.Omega.{arith}
use lib.ListN.{length}
use Rattle.netlist.specs.Net.{Net}
use Rattle.first_clocks.specs.Queue.{TakenTo}
use Rattle.first_clocks.specs.Wanted.{WordsAt, NamedFrom, TakenBefore, taken_none, taken_more, taken_all}
use Rattle.first_clocks.proofs.first_words.Goals as goal

first : (N : Net) (clocks wanted before : List ℕ) {dues names after words : List ℕ} {limit : ℕ} → NamedFrom N clocks wanted before dues names limit 0 → length clocks ≤ 3072 → WordsAt N 0 words → TakenTo dues 0 words names after 3072 → TakenBefore N clocks wanted dues before after (0 + 1)
first N clocks wanted before {dues} n few w t = taken_more N clocks wanted dues before few (λ k l d. (n.some k l d).2) (omega arith) (taken_none N clocks wanted dues before n) w t

pub returns-then-limit-gt1 : goal.returns-then-limit-gt1
returns-then-limit-gt1 c =
    let a = c.args in
    let n = c.name_holders-limit.ensures.named in
    let t = first a.net.now.net a.clocks.now a.wanted.now a.found.now n c.requires.places c.requires.start c.take_due.ensures in
    taken_all _ _ _ _ _ n (omega arith) (c.take_later.ensures a.clocks.now a.wanted.now a.found.now c.requires.places (λ k l d. (n.some k l d).2) t)

pub returns-else-limit-gt1 : goal.returns-else-limit-gt1
returns-else-limit-gt1 c =
    let a = c.args in
    let n = c.name_holders-limit.ensures.named in
    taken_all _ _ _ _ _ n (omega (arith, c.if-limit-gt1.false)) (first a.net.now.net a.clocks.now a.wanted.now a.found.now n c.requires.places c.requires.start c.take_due.ensures)
