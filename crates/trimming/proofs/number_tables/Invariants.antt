-- The loop's invariant: the tables before m are numbered, and the marked ones of them counted.
use Rattle.trimming.specs.Numbers.{Numbering}
use Rattle.trimming.proofs.number_tables.Given as goal

abbrev pub invariant-loop-m : goal.invariant-loop-m
invariant-loop-m l = Numbering l.marks l.numbers l.m l.count
