-- The first source that is bad is one of them, and where no look finds one there is none.
use mathlib.Core.Path.{sym, ap, ◌∙◌}
use mathlib.Core.Logic.{⊎_elim}
use mathlib.Core.Bool.{Bool}
use Prim.Native.Nat.{ℕ}
use native.Mathlib.Omega.{arith}
use Rattle.lists.proofs.BelowLaws.{true_or_false, any_below_intro}
use Rattle.lists.proofs.SearchLaws.{any_passed}
use Rattle.netlist.specs.Net.{source}
use Rattle.netlist.specs.Verdict.{no_source}
use Rattle.rules.specs.OrFirst.{below, all_looked}
use Rattle.rules.proofs.sources.any_no_source.Goals as goal

pub returns-then-no_source : goal.returns-then-no_source
returns-then-no_source c = let N = c.args.net.now.net in let a = c.args in sym (any_below_intro a.n (λ p. no_source N (source N a.v p)) 0 (omega (arith, c.if-n-eq0.false)) (ap (no_source N) (sym c.source.ensures.source) ∙ sym c.no_source.ensures ∙ c.if-no_source.true))

pub returns : goal.returns
returns c = let N = c.args.net.now.net in let a = c.args in let q : ℕ → Bool = λ p. no_source N (source N a.v p) in let third = c.or_first-third.result in c.no_source-3.ensures ∙ ap (no_source N) c.source-3.ensures.source ∙ ⊎_elim (λ t. t ∙ sym (any_below_intro a.n q third (below c.or_first-third.ensures.first (omega (arith, c.if-n-eq0.false))) t)) (λ t. t ∙ sym (any_passed a.n q (all_looked c.or_first-second.ensures.first c.or_first-third.ensures.first c.requires.few q (ap (no_source N) (sym c.source.ensures.source) ∙ sym c.no_source.ensures ∙ c.if-no_source.false) (ap (no_source N) (sym c.source-2.ensures.source) ∙ sym c.no_source-2.ensures ∙ c.if-no_source-2.false) t))) (true_or_false (q third))
