-- Two netlists whose nodes read the same and hold words alike have the same walks; so have a netlist and what is left of it without its unread tables. Assumes nothing.
use Rattle.std.specs.Prelude.{◌≡◌}
use Rattle.std.proofs.Math.Path.{refl, ap, ap₂}
use Rattle.std.proofs.Common.{sym, ◌∙◌, subst}
use mathlib.Core.List.{List, ◌++◌, map}
use Prim.Native.Nat.{ℕ, ◌+◌, ◌<◌}
use Rattle.lists.specs.Lists.{one}
use Rattle.netlist.specs.Net.{Net, size, element_at, source, operands, holds_word}
use Rattle.netlist.specs.Trim.{trimmed}
use Rattle.netlist.proofs.Trimmed.{size-trimmed, source-trimmed, blind_trimmed}
use Rattle.netlist.proofs.TrimmedRules.{blind_holds, blind_operands}
use Rattle.retiming.specs.Leads.{Walk, here, step}
use Rattle.retiming.specs.Lengths.{latency, Pin, pin, pins, LoopKept, PathKept}

pub record SameSteps (M M' : Net) : Type 0 where
  pub nodes : size M ≡ size M'
  pub counts : (x : ℕ) → operands (element_at M x) ≡ operands (element_at M' x)
  pub reads : (x p : ℕ) → source M x p ≡ source M' x p
  pub holds : (x : ℕ) → holds_word (element_at M x) ≡ holds_word (element_at M' x)

turned : {M M' : Net} → SameSteps M M' → SameSteps M' M
turned s = record { nodes = sym s.nodes; counts = λ x. sym (s.counts x); reads = λ x p. sym (s.reads x p); holds = λ x. sym (s.holds x) }

-- the same walk in the other netlist
module _ {M M' : Net} (s : SameSteps M M') where
  again : {i j : ℕ} → Walk M i j → Walk M' i j
  again (here e) = here e
  again (step {x = x} r w) =
      step (record {
        operand = r.operand;
        inside = subst (λ (n : ℕ). x < n) s.nodes r.inside;
        used = subst (λ (n : ℕ). r.operand < n) (s.counts x) r.used;
        from = sym (s.reads x r.operand) ∙ r.from;
      }) (again w)

  again_long : {i j : ℕ} (w : Walk M i j) → latency (again w) ≡ latency w
  unfolding again latency
  again_long (here e) = refl
  again_long (step {x = x} r w) = ap₂ ◌+◌ (ap one (sym (s.holds x))) (again_long w)

  again-pins : (known : ℕ → List ℕ) {i j : ℕ} (w : Walk M i j) → pins known (again w) ≡ pins known w
  unfolding again pins
  again-pins known (here e) = refl
  again-pins known (step {x = x} r w) = ap (λ (l : List Pin). map (pin r.operand) (known x) ++ l) (again-pins known w)

-- so what is kept in the one is kept in the other
module _ {N M M' : Net} {known : ℕ → List ℕ} (s : SameSteps M M') where
  pub loop_again : {u : ℕ} {w : Walk N u u} → LoopKept N M known w → LoopKept N M' known w
  loop_again k = record {
    node = k.node;
    loop = again s k.loop;
    through = again-pins s known k.loop ∙ k.through;
    as_long = λ i z e. sym (again_long (turned s) z) ∙ k.as_long i (again (turned s) z) (again-pins (turned s) known z ∙ e);
  }

  pub path_again : {u v : ℕ} {w : Walk N u v} → PathKept N M known w → PathKept N M' known w
  path_again k = record {
    first = k.first;
    last = k.last;
    begins = k.begins;
    ends = k.ends;
    path = again s k.path;
    through = again-pins s known k.path ∙ k.through;
    as_long = λ i j a b z e. sym (again_long (turned s) z) ∙ k.as_long i j a b (again (turned s) z) (again-pins (turned s) known z ∙ e);
  }

-- ---- without its unread tables

pub trimmed-steps : (M : Net) → SameSteps M (trimmed M)
trimmed-steps M = record {
  nodes = sym (size-trimmed M);
  counts = λ x. sym (blind_trimmed M blind_operands x);
  reads = λ x p. sym (source-trimmed M x p);
  holds = λ x. sym (blind_trimmed M blind_holds x);
}
