-- The loop's invariant: the places from k on have their nodes and stand in the queue, and the last holder is remembered.
use mathlib.Core.Path.{◌≡◌, sym, ap, subst, ◌∙◌}
use mathlib.Core.List.{List}
use Prim.Native.Nat.{ℕ, ◌+◌, ◌-◌, ◌<◌}
use native.Mathlib.Omega.{arith}
use lib.ListN.{length, get_or, set, replicate}
use Rattle.lists.proofs.Sections.{section-length}
use Rattle.behaviour.specs.Run.{zero_word}
use Rattle.first_clocks.specs.Holders.{Holder}
use Rattle.first_clocks.specs.Queue.{dues_in, dues_none, Queued, queued_none, queued_past, queued_more}
use Rattle.first_clocks.specs.Wanted.{NamedFrom, named_none, named_idle, named_more}
use Rattle.first_clocks.proofs.name_holders.Goals as goal

pub loop-k-init : goal.loop-k-init
loop-k-init c =
    let a = c.args in
    let p = c.requires in
    let e : replicate 7168 65535 ≡ c.fill.new.self = sym (c.fill.ensures.after (λ y q. q) ∙ ap (λ (n : ℕ). replicate n 65535) p.queue) in (
      omega arith,
      tt,
      named_none _ _ _ _ (subst (λ (l : List ℕ). (j : ℕ) → j < 3072 → get_or (dues_in l) j 0 ≡ 65535) e dues_none),
      subst (λ (l : List ℕ). Queued l (length a.clocks.now)) e (queued_none (length a.clocks.now)),
    )

pub loop-k-preserved-then-clock-ge-NEVER : goal.loop-k-preserved-then-clock-ge-NEVER
loop-k-preserved-then-clock-ge-NEVER c =
    let a = c.args in
    let s = c.loop-k in
    let i = s.invariant in
    let N = a.net.now.net in
    let long = s.auto.queue ∙ c.fill.ensures.len ∙ c.requires.queue in
    let e : s.k ≡ s.k - 1 + 1 = omega (arith, c.loop-k-test.true) in
    let n = subst (NamedFrom N a.clocks.now a.wanted.now a.found.now (dues_in s.queue) s.found s.limit) e i.2 in
    let low : s.k - 1 < 3072 = omega (arith, c.requires.places, s.auto.k, c.loop-k-test.true) in (
      i.0,
      i.1,
      named_idle N a.clocks.now a.wanted.now a.found.now n (omega (arith, c.if-clock-ge-NEVER.true)),
      queued_past s.queue long low (subst (Queued s.queue) e i.3) (λ d. omega (arith, (n.some (s.k - 1) low d).0)),
    )

pub loop-k-preserved : goal.loop-k-preserved
loop-k-preserved c =
    let a = c.args in
    let p = c.requires in
    let s = c.loop-k in
    let i = s.invariant in
    let N = a.net.now.net in
    let k : ℕ = s.k - 1 in
    let clock : ℕ = get_or a.clocks.now k 0 in
    let h = c.holder_at-held in
    let b = h.ensures.holder in
    let d : ℕ = clock - h.result.back in
    let v : c.at_or-v.result ≡ get_or a.wanted.now k 0 = c.at_or-v.ensures in
    let long = s.auto.queue ∙ c.fill.ensures.len ∙ p.queue in
    let e : s.k ≡ k + 1 = omega (arith, c.loop-k-test.true) in
    let low : k < length a.clocks.now = omega (arith, s.auto.k, c.loop-k-test.true) in
    let wants : clock < 65534 = omega (arith, c.if-clock-ge-NEVER.false, c.type_inv.clocks k) in
    let same : zero_word N clock (get_or a.wanted.now k 0) ≡ zero_word N d h.result.holder =
    ap (zero_word N clock) (sym v) ∙ ap (λ (t : ℕ). zero_word N t c.at_or-v.result) (let q : clock ≡ h.result.back + d = omega (arith, h.ensures.near) in q) ∙ b.same d in
    let n = subst (NamedFrom N a.clocks.now a.wanted.now a.found.now (dues_in s.queue) s.found s.limit) e i.2 in
    let q = c.enqueue.ensures in
    let more = named_more N a.clocks.now a.wanted.now a.found.now n wants b.inside same (omega (arith, c.max-limit.ensures)) (omega (arith, c.max-limit.ensures)) low (omega (arith, p.places, section-length 4096 3072 s.queue (omega (arith, long)))) (omega (arith, p.room)) in (
      omega (arith, c.max-limit.ensures, i.0, c.type_inv.clocks k),
      subst (λ (x : ℕ). Holder N x h.result.back h.result.holder) (sym h.ensures.node) b,
      subst (λ (l : List ℕ). NamedFrom N a.clocks.now a.wanted.now a.found.now l (set s.found k h.result.holder) c.max-limit.result k) (sym q.dues) more,
      queued_more s.queue long (omega (arith, p.places)) (subst (Queued s.queue) e i.3) (omega arith) q,
    )
