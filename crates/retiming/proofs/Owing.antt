-- An input port owes where it has a positive lead: the test says so. Assumes nothing.
use Rattle.std.specs.Prelude.{◌≡◌, true, false, ℕ, ◌<◌, ltb}
use Rattle.std.proofs.Common.{sym, ◌∙◌, ⊎_elim, arith}
use Rattle.std.proofs.lemmas.Bool.{false≢true}
use borrow.Author.Tests.{lt-ltb, ltb-true}
use Rattle.lists.proofs.BelowLaws.{true_or_false, lt_or_le, and_left, and_right}
use Rattle.netlist.specs.Net.{Net, element_at, is_input}
use Rattle.retiming.specs.Leads.{lead, owing_port}

module _ (N : Net) where
  pub owing_is : (v : ℕ) → owing_port N v ≡ true → (is_input (element_at N v) ≡ true) × (0 < lead N v)
  unfolding owing_port
  owing_is v t = (and_left (is_input (element_at N v)) (ltb 0 (lead N v)) t, ltb-true 0 (lead N v) (and_right (is_input (element_at N v)) (ltb 0 (lead N v)) t))

  pub is_owing : (v : ℕ) → is_input (element_at N v) ≡ true → 0 < lead N v → owing_port N v ≡ true
  unfolding owing_port
  is_owing v i l = rw i (lt-ltb 0 (lead N v) l)

  pub no_lead : (v : ℕ) → owing_port N v ≡ false → is_input (element_at N v) ≡ true → lead N v ≡ 0
  no_lead v t i = ⊎_elim (λ l. absurd (false≢true (sym t ∙ is_owing v i l))) (λ l. omega arith) (lt_or_le 0 (lead N v))

  pub not_owing : (v : ℕ) → (is_input (element_at N v) ≡ true → lead N v ≡ 0) → owing_port N v ≡ false
  not_owing v h = ⊎_elim (λ t. let o = owing_is v t in let z : lead N v ≡ 0 = h o.0 in absurd (omega (arith, o.1))) (λ t. t) (true_or_false (owing_port N v))
