-- The rewriting of a file whose new netlist is laid as a circuit. Assumes nothing.
use Rattle.std.specs.Prelude.{◌≡◌, true, false, List, ◌++◌, ℕ, ◌≤◌, ◌<◌, length, drop, ltb}
use Rattle.std.proofs.Common.{sym, ap, ◌∙◌, ⊎_elim, zero-le, arith, ltb-false}
use Rattle.lists.proofs.BelowLaws.{true_or_false}
use Rattle.netlist.specs.Net.{Net}
use Rattle.netlist.specs.File.{decode, decoded_net, encode}
use Rattle.netlist.specs.declared.Answer.{Answer}
use Rattle.netlist.specs.declared.Answer.TheVariants.{Accepted, Refused}
use Rattle.netlist.specs.Verdict.{Verdict, Fine, Refuses}
use Rattle.retiming.specs.declared.Mode.{Mode}
use Rattle.retiming.specs.FileRewrite.{Rewrote, written_by, written, written_after}
use Rattle.retiming.proofs.OutLaws.{out_short, out_long}
use Rattle.retiming.specs.Modes.{mode_net, mode_file_verdict, mode_file, mode_rewrite}
use Rattle.retiming.proofs.RewrittenFile.{mode_rewrite_lem, mode_file_lem}

-- ---- answer and output, as they are stated

pub rewrote : {x y : Rewrote} → x ≡ y → (x.answer ≡ y.answer) × (x.out ≡ y.out)
rewrote e = (ap (λ (z : Rewrote). z.answer) e, ap (λ (z : Rewrote). z.out) e)

-- 14, or written
pub too_short : (b out : List ℕ) → length out < length b → record { answer = Refused 14 65535; out = out } ≡ written b out
unfolding written
too_short b out h = sym (ap (λ (v : Verdict). written_by v b out) (out_short b out h))

pub long_enough : (b out : List ℕ) → length b ≤ length out → record { answer = Accepted (length b); out = b ++ drop (length b) out } ≡ written b out
unfolding written
long_enough b out h = sym (ap (λ (v : Verdict). written_by v b out) (out_long b out h))

-- ---- by what is laid

module _ (mode : Mode) (s out : List ℕ) where
  pub laid_none : {k p : ℕ} → Refuses k p ≡ mode_file_verdict mode s → record { answer = Refused k p; out = out } ≡ mode_rewrite mode s out
  laid_none e = sym (mode_rewrite_lem mode s out ∙ ap (λ (v : Verdict). written_after v (mode_file mode s) out) (sym e))

  pub laid-written : {M : Net} → Fine ≡ mode_file_verdict mode s → M ≡ mode_net mode (decoded_net (decode s)) → written (encode M) out ≡ mode_rewrite mode s out
  laid-written fine laid =
      ap (λ (N : Net). written (encode N) out) laid
      ∙ ap (λ (b : List ℕ). written b out) (mode_file_lem mode s (sym fine))
      ∙ sym (mode_rewrite_lem mode s out ∙ ap (λ (v : Verdict). written_after v (mode_file mode s) out) (sym fine))

-- ---- an accepted length is within the output

length_of : Answer → ℕ
length_of (Accepted n) = n
length_of (Refused k p) = 0

written_inside : (b out : List ℕ) → length_of (written b out).answer ≤ length out
unfolding written length_of
written_inside b out =
    ⊎_elim
    (λ (e : ltb (length out) (length b) ≡ true). rw e zero-le)
    (λ (e : ltb (length out) (length b) ≡ false). rw e (ltb-false (length out) (length b) e))
    (true_or_false (ltb (length out) (length b)))

after_inside : (v : Verdict) (b out : List ℕ) → length_of (written_after v b out).answer ≤ length out
unfolding length_of
after_inside Fine b out = written_inside b out
after_inside (Refuses k p) b out = zero-le

pub accepted_inside : (mode : Mode) (s out : List ℕ) {r : Answer} {n : ℕ} → r ≡ (mode_rewrite mode s out).answer → r ≡ Accepted n → n ≤ length out
unfolding length_of
accepted_inside mode s out {n = n} e q =
    let l : length_of (Accepted n) ≡ length_of (written_after (mode_file_verdict mode s) (mode_file mode s) out).answer = ap length_of (sym q ∙ e ∙ ap (λ (w : Rewrote). w.answer) (mode_rewrite_lem mode s out)) in
    omega (arith, after_inside (mode_file_verdict mode s) (mode_file mode s) out)
