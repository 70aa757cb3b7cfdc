-- The loop's invariant: along the chain of the clock's slot, all places before k are looked at.
use mathlib.Core.Path.{◌≡◌, sym, ap, subst, ◌∙◌}
use mathlib.Core.Logic.{⊎_elim}
use mathlib.Core.List.{List}
use Prim.Native.Nat.{ℕ, ◌+◌, ◌%◌, ◌<◌}
use native.Mathlib.Omega.{arith}
use native.Mathlib.Nat.{zero-lt-suc, mod-lt}
use lib.ListN.{length, get_or}
use Rattle.lists.proofs.BelowLaws.{lt_or_le}
use Rattle.lists.proofs.Sections.{section-length, section-read}
use Rattle.lists.specs.Linked.{From}
use Rattle.first_clocks.specs.Queue.{slots_in, dues_in, InSlot, Queued, TakenTo, look_none, look_more, look_past, along_slot}
use Rattle.first_clocks.proofs.queue.take_due.Goals as goal
use Rattle.first_clocks.proofs.queue.take_due.Goals.{then-due-t, else-due-t}

next : (Q : List ℕ) (t k : ℕ) → length Q ≡ 7168 → Queued Q 0 → k < 3072 → InSlot (dues_in Q) k (t % 1024) → From (InSlot (dues_in Q)) 3072 (t % 1024) (k + 1) (get_or Q (1024 + k) 0)
next Q t k long q h i =
    subst (From (InSlot (dues_in Q)) 3072 (t % 1024) (k + 1)) (section-read 1024 3072 Q k h)
    (q.next k (t % 1024) (omega arith) h (omega (arith, section-length 0 1024 Q (omega arith), mod-lt t (zero-lt-suc 1023))) i)

pub loop-k-init : goal.loop-k-init
loop-k-init c =
    let a = c.args in
    let Q = a.queue.now in
    let slot : ℕ = a.t % 1024 in
    let small = mod-lt a.t (zero-lt-suc 1023) in
    let is : get_or (slots_in Q) slot 0 ≡ get_or Q slot 0 = section-read 0 1024 Q slot small ∙ ap (λ (i : ℕ). get_or Q i 0) (let e : 0 + slot ≡ slot = omega arith in e) in
    let first = c.requires.chains.first slot (omega (arith, small, section-length 0 1024 Q (omega (arith, c.requires.queue)))) in
    along_slot Q c.requires.comes (omega arith) (look_none (dues_in Q) a.t a.words.now a.found.now) (subst (From (InSlot (dues_in Q)) 3072 slot 0) is first)

pub loop-k-smaller : goal.loop-k-smaller
loop-k-smaller c =
    let k = c.loop-k.k in
    let h = c.loop-k-test.true in
    let f = next c.args.queue.now c.args.t k c.requires.queue c.requires.chains h (c.loop-k.invariant.here h).0 in
    ⊎_elim (λ g. omega (arith, (f.here g).0)) (λ g. omega (arith, h)) (lt_or_le (get_or c.args.queue.now (1024 + k) 0) 3072)

pub loop-k-preserved : goal.loop-k-preserved
loop-k-preserved c =
    let a = c.args in
    let s = c.loop-k in
    let h = c.loop-k-test.true in
    let w = s.invariant.here h in
    let Q = a.queue.now in
    let due : get_or (dues_in Q) s.k 0 ≡ get_or Q (4096 + s.k) 0 = section-read 4096 3072 Q s.k h in
    let T : List ℕ → Type 0 = λ x. TakenTo (dues_in Q) a.t a.words.now a.found.now x (s.k + 1) in
    let taken : T c.if-due-t.found =
    elim c.if-due-t.branch [
      | then-due-t r ↦
          subst T (sym r.found-is) (look_more (dues_in Q) a.t a.words.now a.found.now w.1 r.at_or.result (due ∙ r.if-due-t.true) r.at_or.ensures (c.requires.within s.k h w.0.0))
      | else-due-t r ↦
          subst T (sym r.found-is) (look_past (dues_in Q) a.t a.words.now a.found.now w.1 (s.k + 1) (omega arith)
          (λ j i l q. r.if-due-t.false (sym due ∙ ap (λ (x : ℕ). get_or (dues_in Q) x 0) (let e : s.k ≡ j = omega arith in e) ∙ q)))
    ] in
    along_slot Q c.requires.comes (omega arith) taken (next Q a.t s.k c.requires.queue c.requires.chains h w.0)
