-- What a mode writes after its checks: 14, just where lent bytes are too short for what is to stand in them; what a refusal says of the checks, and that it keeps the
-- output. Assumes nothing.
use Rattle.std.specs.Prelude.{◌≡◌, ◌↔◌, Bool, cond, List, ◌++◌, ℕ, ◌≤◌, ◌<◌, length, drop}
use Rattle.std.proofs.Math.Path.{refl, ap}
use Rattle.std.proofs.Common.{sym, ◌∙◌, ⊎_elim, arith, lt-ltb, le-ltb}
use Rattle.lists.proofs.BelowLaws.{lt_or_le}
use Rattle.netlist.proofs.VerdictLaws.{refuses_not}
use Rattle.netlist.specs.declared.Answer.TheVariants.{Accepted, Refused}
use Rattle.netlist.specs.Verdict.{Verdict, Fine, Refuses}
use Rattle.retiming.specs.FileRewrite.{out_verdict, written_by, written, written_after}

module _ (b out : List ℕ) where
  pub out_short : length out < length b → out_verdict b out ≡ Refuses 14 65535
  out_short h = ap (λ (t : Bool). cond t (Refuses 14 65535) Fine) (lt-ltb (length out) (length b) h)

  pub out_long : length b ≤ length out → out_verdict b out ≡ Fine
  out_long h = ap (λ (t : Bool). cond t (Refuses 14 65535) Fine) (le-ltb (length out) (length b) h)

  pub out_fine : out_verdict b out ≡ Fine → length b ≤ length out
  out_fine e = ⊎_elim (λ h. absurd (refuses_not (sym (out_short h) ∙ e))) (λ h. h) (lt_or_le (length out) (length b))

  pub out_refuses : {k p : ℕ} → out_verdict b out ≡ Refuses k p → (k ≡ 14) × (p ≡ 65535) × (length out < length b)
  out_refuses {k} {p} e =
      ⊎_elim (λ h. let q : Refuses 14 65535 ≡ Refuses k p = sym (out_short h) ∙ e in (cc, cc, h)) (λ h. absurd (refuses_not (sym e ∙ out_long h))) (lt_or_le (length out) (length b))

-- ---- the answer, and the output

module _ (b out : List ℕ) where
  -- into any output that is long enough go the bytes, and what is past them stays
  pub fine_written : length b ≤ length out → written_after Fine b out ≡ record { answer = Accepted (length b); out = b ++ drop (length b) out }
  unfolding written
  fine_written long = ap (λ (v : Verdict). written_by v b out) (out_long b out long)

  -- the answer is a refusal just where the verdict is one, and then the output is as it was
  refused_by : (v : Verdict) (k p : ℕ) → (written_by v b out).answer ≡ Refused k p → (v ≡ Refuses k p) × ((written_by v b out).out ≡ out)
  refused_by Fine k p e = let z : ◌≡◌ {A = ℕ} 0 1 = cc in absurd (omega arith)
  refused_by (Refuses m q) k p e = (cc, refl)

  -- 14 by the length, after which no other number comes
  short : (k p : ℕ) → (written b out).answer ≡ Refused k p → (k ≡ 14) × (p ≡ 65535) × (length out < length b)
  unfolding written
  short k p e = out_refuses b out (refused_by (out_verdict b out) k p e).0

  pub kept : (v : Verdict) (k p : ℕ) → (written_after v b out).answer ≡ Refused k p → (written_after v b out).out ≡ out
  unfolding written
  kept Fine k p e = (refused_by (out_verdict b out) k p e).1
  kept (Refuses m q) k p e = refl

  -- 14: just where the lent output is shorter than what is to be written
  pub short_iff : (v : Verdict) → v ≡ Fine → (written_after v b out).answer ≡ Refused 14 65535 ↔ (length out < length b)
  unfolding written
  short_iff v a = rw a (λ e. (short 14 65535 e).2, λ l. ap (λ (w : Verdict). (written_by w b out).answer) (out_short b out l))

  said : (v : Verdict) (k p : ℕ) → (k ≡ 14 → ⊥) → (written_after v b out).answer ≡ Refused k p → v ≡ Refuses k p
  said Fine k p h e = absurd (h (short k p e).0)
  said (Refuses m q) k p h e = cc

  -- any other number: just where the checks say it
  pub said_iff : (v w : Verdict) → v ≡ w → (k p : ℕ) → (k ≡ 14 → ⊥) → (written_after v b out).answer ≡ Refused k p ↔ w ≡ Refuses k p
  said_iff v w same k p h = (λ e. sym same ∙ said v k p h e, λ e. ap (λ (x : Verdict). (written_after x b out).answer) (same ∙ e))
