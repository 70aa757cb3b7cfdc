-- What a mode keeps of a file that it accepts, in its new file: the nodes, and the lengths of loops and of walks from port to port. Assumes nothing.
use Rattle.std.specs.Prelude.{◌≡◌, refl, true, false, List, [], ◌∷◌, ℕ, ◌<◌}
use Rattle.std.proofs.Common.{sym, ap, subst, ◌∙◌, inl, inr}
use Rattle.netlist.specs.declared.Element.{Element}
use Rattle.netlist.specs.declared.Element.TheVariants.{Input, Output, Register, Async, Clocked, Gate}
use Rattle.netlist.specs.Net.{Net, size, table_of, element_at, is_register, is_input, is_output}
use Rattle.netlist.specs.Trim.{table_number, over_table, trimmed}
use Rattle.netlist.proofs.Trimmed.{size-trimmed, inside_trimmed, element_trimmed, width_trimmed}
use Rattle.netlist.specs.Verdict.{Fine}
use Rattle.netlist.specs.File.{decode, decoded_net, good}
use Rattle.codec.specs.Bytes.{Bytes}
use Rattle.behaviour.specs.Run.{zero_word}
use Rattle.retiming.specs.declared.Mode.{Mode}
use Rattle.retiming.specs.Leads.{Walk}
use Rattle.retiming.specs.Rewrite.{Entry, new_element}
use Rattle.retiming.specs.Gates.{Old, spot_number}
use Rattle.retiming.specs.Modes.{mode_timing, mode_net, mode_file_verdict, mode_file}
use Rattle.retiming.proofs.ModeLaws.{mode_clear, mode_keeps}
use Rattle.retiming.specs.Lengths.{comes_from, SameNode, Aside, NotLeftOut, LoopKept, PathKept}
use Rattle.retiming.proofs.Standing.{stands_some}
use Rattle.retiming.proofs.ComesFrom.{spot_from, comes_is, aside_is}
use Rattle.retiming.proofs.Followed.{loop_kept, path_kept}
use Rattle.retiming.proofs.SameWalks.{trimmed-steps, loop_again, path_again}
use Rattle.retiming.specs.RewrittenFile.{Past13}
use Rattle.retiming.proofs.RewrittenFile.{past_13, old_fine, suits, gated, net_is, new-read}

-- ---- a node, and what is left aside, over another table's number

over_new : (k : ℕ) (e : Element) (m c : ℕ) → over_table k (new_element e m c) ≡ new_element e k c
over_new k Input m c = refl
over_new k Output m c = refl
over_new k (Register r) m c = refl
over_new k (Async n) m c = refl
over_new k (Clocked n r) m c = refl
over_new k (Gate o) m c = refl

aside_over : (k : ℕ) (e : Element) → Aside e → Aside (over_table k e)
aside_over k e (inl (n, h)) = inl (n, ap (over_table k) h)
aside_over k e (inr (inl (n, h))) = inr (inl (n, ap (over_table k) h))
aside_over k e (inr (inr h)) = inr (inr (ap (over_table k) h))

module _ (M : Net) where
  same_trimmed : (N : Net) (u i : ℕ) → SameNode N M u i → SameNode N (trimmed M) u i
  same_trimmed N u i s = record {
    inside = subst (λ (n : ℕ). i < n) (sym (size-trimmed M)) s.inside;
    width = width_trimmed M i ∙ s.width;
    table = table_number M (table_of (element_at M i));
    reset = s.reset;
    element = element_trimmed M i ∙ ap (over_table (table_number M (table_of (element_at M i)))) s.element ∙ over_new _ (element_at N u) s.table s.reset;
  }

  aside_trimmed : (i : ℕ) → Aside (element_at M i) → Aside (element_at (trimmed M) i)
  aside_trimmed i a = rw (element_trimmed M i) (aside_over (table_number M (table_of (element_at M i))) (element_at M i) a)

-- ---- in the new file

module _ (mode : Mode) (s : List ℕ) (b : Bytes s) (t : Past13 mode s) where
  abbrev N : Net
  N = t.net

  keeps : (u : ℕ) → NotLeftOut mode N u → u < size N → (mode_timing mode N).keeps u ≡ true
  keeps u c h = let d = mode_clear mode N t.debtless in mode_keeps N (old_fine mode s b t) mode d.0 d.1 u c h

  pub comes_from_lem : (i u : ℕ) → comes_from mode N i ≡ u ∷ [] → SameNode N (mode_net mode N) u i
  comes_from_lem i u e = subst (λ (M : Net). SameNode N M u i) (net_is mode s b t) (same_trimmed (gated mode s b t) N u i (comes_is N (mode_timing mode N) (zero_word N) u i e))

  pub left_aside : (i : ℕ) → i < size (mode_net mode N) → comes_from mode N i ≡ [] → Aside (element_at (mode_net mode N) i)
  left_aside i h e =
      subst (λ (M : Net). i < size M → Aside (element_at M i)) (net_is mode s b t)
      (λ k. aside_trimmed (gated mode s b t) i (aside_is N (mode_timing mode N) (zero_word N) i (inside_trimmed (gated mode s b t) k) e)) h

  pub stays : (u : ℕ) → u < size N → is_register (element_at N u) ≡ false → NotLeftOut mode N u → (i : ℕ) × (comes_from mode N i ≡ u ∷ [])
  stays u h r c =
      let some = stands_some N (mode_timing mode N) (zero_word N) (suits mode s b t).retimes u h r (keeps u c h) in
      (spot_number N (mode_timing mode N) (zero_word N) (Old (Entry u some.0)), spot_from N (mode_timing mode N) (zero_word N) (Old (Entry u some.0)) some.1)

  pub loops_kept : (u : ℕ) (w : Walk N u u) → NotLeftOut mode N u → LoopKept N (mode_net mode N) (comes_from mode N) w
  loops_kept u w c =
      subst (λ (M : Net). LoopKept N M (comes_from mode N) w) (net_is mode s b t)
      (loop_again (trimmed-steps (gated mode s b t)) (loop_kept N (mode_timing mode N) (zero_word N) (suits mode s b t).retimes w (keeps u c)))

  pub paths_kept : (u v : ℕ) (w : Walk N u v) → is_input (element_at N u) ≡ true → is_output (element_at N v) ≡ true → PathKept N (mode_net mode N) (comes_from mode N) w
  paths_kept u v w i o =
      subst (λ (M : Net). PathKept N M (comes_from mode N) w) (net_is mode s b t)
      (path_again (trimmed-steps (gated mode s b t)) (path_kept N (mode_timing mode N) (zero_word N) (suits mode s b t).retimes w i o))

-- what holds of the two netlists by the checks holds of those that are read from the files
pub of_files : (mode : Mode) (s s' : List ℕ) → Bytes s → mode_file_verdict mode s ≡ Fine → s' ≡ mode_file mode s
    → (P : Net → Net → Type 0) → ((t : Past13 mode s) → P t.net (mode_net mode t.net)) → (N M : Net) → decode s ≡ good N → decode s' ≡ good M → P N M
of_files mode s s' b a e P h N M reads reads' =
    let t : Past13 mode s = past_13 mode s a in
    let old : t.net ≡ N = ap decoded_net (sym t.file.reads ∙ reads) in
    let new : mode_net mode t.net ≡ M = ap decoded_net (sym (new-read mode s b t).reads ∙ ap decode (sym e) ∙ reads') in
    subst (λ (X : Net). P X M) old (subst (P t.net) new (h t))
