-- Every node that stays feeds a reader that stays and is no register, so that it stands in the rewritten netlist; and each copy of a memory is wanted by a wire.
-- Assumes nothing.
use Rattle.std.specs.Prelude.{◌≡◌, false, [], ◌∷◌, ℕ, zero, suc, ◌+◌, ◌<◌, eqb}
use Rattle.std.proofs.Common.{sym, ap, ◌∙◌, subst, arith}
use Rattle.std.proofs.Math.Logic.{⊎_elim}
use Rattle.std.proofs.Math.Bool.{true}
use Rattle.std.proofs.lemmas.Bool.{false≢true}
use Rattle.lists.specs.Lists.{below, concat_map, has}
use Rattle.lists.proofs.BelowLaws.{true_or_false, eqb-true}
use Rattle.lists.proofs.DistinctLaws.{has_only, has_distinct_inverse, has_concat_below_inverse}
use Rattle.netlist.specs.Net.{Net, size, element_at, source, operands, is_register, is_input, is_output}
use Rattle.netlist.specs.Reach.{Reads}
use Rattle.retiming.specs.Rewrite.{Timing, stays, root, passed, memory_at, copy_on, copies_at, copies_of, copies}
use Rattle.retiming.proofs.Elements.{register_no_port, rom_no_port}
use Rattle.retiming.proofs.Wires.{wire_next, wire_none}
use Rattle.retiming.specs.Layout.{Stands}
use Rattle.retiming.proofs.LayoutLaws.{stays_if, copy_on_lem}
use Rattle.retiming.specs.Candidate.{Retimes}
use Rattle.retiming.proofs.New.{passed_at_most}

-- ---- which wire wants a copy of a ROM

pub record Wanted (N : Net) (f : Timing) (Z : ℕ → ℕ → ℕ) (u c : ℕ) : Type 0 where
  pub reader : ℕ
  pub operand : ℕ
  pub inside : reader < size N
  pub staying : stays N f Z reader ≡ true
  pub used : operand < operands (element_at N reader)
  pub from : root N (source N reader operand) ≡ u
  pub word : c ≡ copy_on N f Z reader operand

module _ (N : Net) (f : Timing) (Z : ℕ → ℕ → ℕ) where
  wanted_by : (u c x : ℕ) → x < size N → has c (copies_of N f Z u x) ≡ true → Wanted N f Z u c
  unfolding copies_of copies_at
  wanted_by u c x h e =
      ⊎_elim (λ t. at_operand t (has_concat_below_inverse (copies_at N f Z u x) c (operands (element_at N x)) (rw t at e)))
      (λ t. absurd (false≢true (rw t at e))) (true_or_false (stays N f Z x))
    where
      at_operand : stays N f Z x ≡ true → (p : ℕ) × (p < operands (element_at N x)) × (has c (copies_at N f Z u x p) ≡ true) → Wanted N f Z u c
      at_operand t (p, q, k) =
          let r = has_only c (eqb (root N (source N x p)) u) (copy_on N f Z x p) k in
          record { reader = x; operand = p; inside = h; staying = t; used = q; from = eqb-true r.0; word = r.1 }

  pub wanted : (u c : ℕ) → memory_at N u ≡ true → has c (copies N f Z u) ≡ true → Wanted N f Z u c
  unfolding copies
  wanted u c r e =
      ⊎_elim
      (λ t. let k = has_concat_below_inverse (copies_of N f Z u) c (size N) (has_distinct_inverse c (concat_map (copies_of N f Z u) (below (size N))) (rw r at (rw t at e))) in
      wanted_by u c k.0 k.1 k.2) (λ t. absurd (false≢true (rw t at e))) (true_or_false (stays N f Z u))

-- ---- every node that is no port feeds a reader that is no register

-- a wire from u
pub record Wire (N : Net) (f : Timing) (u : ℕ) : Type 0 where
  pub reader : ℕ
  pub operand : ℕ
  pub inside : reader < size N
  pub other : is_register (element_at N reader) ≡ false
  pub kept : f.keeps reader ≡ true
  pub used : operand < operands (element_at N reader)
  pub from : root N (source N reader operand) ≡ u

module _ (N : Net) (f : Timing) (ok : Retimes N f) where
  -- a register that reads s
  reads_at_zero : (x s : ℕ) (r : Reads N x s) → is_register (element_at N x) ≡ true → source N x 0 ≡ s
  reads_at_zero x s r t =
      let z : r.operand ≡ 0 = omega (arith, r.used, (register_no_port (element_at N x) t).2) in
      ap (source N x) (sym z) ∙ r.from

  pub next_root : (x s : ℕ) (r : Reads N x s) (t : is_register (element_at N x) ≡ true) → (root N x ≡ root N s) × (passed N x ≡ suc (passed N s))
  next_root x s r t =
      let w = wire_next N ok.rooted x r.inside t in
      (w.0 ∙ ap (root N) (reads_at_zero x s r t), w.1 ∙ ap (λ (k : ℕ). suc (passed N k)) (reads_at_zero x s r t))

  wire_on_lem : (u m s : ℕ) → s < size N → f.keeps s ≡ true → is_input (element_at N s) ≡ false → is_output (element_at N s) ≡ false → root N s ≡ u → size N < passed N s + m → Wire N f u
  wire_on_lem u zero s h y i o e l = absurd (omega (arith, passed_at_most N s))
  wire_on_lem u (suc m) s h y i o e l =
      let r = ok.read s h y i o in
      let x : ℕ = r.0 in
      ⊎_elim
      (λ (t : is_register (element_at N x) ≡ true). let k = next_root x s r.1 t in
      let p = register_no_port (element_at N x) t in
      wire_on_lem u m x r.1.inside r.2 p.0 p.1 (k.0 ∙ e) (omega (arith, k.1)))
      (λ t. record { reader = x; operand = r.1.operand; inside = r.1.inside; other = t; kept = r.2; used = r.1.used; from = ap (root N) r.1.from ∙ e })
      (true_or_false (is_register (element_at N x)))

  pub wire_from : (u : ℕ) → u < size N → f.keeps u ≡ true → is_input (element_at N u) ≡ false → is_output (element_at N u) ≡ false → is_register (element_at N u) ≡ false → Wire N f u
  wire_from u h y i o t = wire_on_lem u (suc (size N)) u h y i o (wire_none N u t).0 (omega arith)

-- ---- what stays stands in the rewritten netlist

module _ (N : Net) (f : Timing) (Z : ℕ → ℕ → ℕ) (ok : Retimes N f) where
  -- what is no ROM stands once, with 0
  pub plain_copies : (x : ℕ) → stays N f Z x ≡ true → memory_at N x ≡ false → copies N f Z x ≡ 0 ∷ []
  unfolding copies
  plain_copies x o t = rw o (rw t)

  rom_ports : (x : ℕ) → memory_at N x ≡ true → (is_input (element_at N x) ≡ false) × (is_output (element_at N x) ≡ false)
  unfolding memory_at
  rom_ports x t = rom_no_port (element_at N x) t

  -- every node that stays stands in the rewritten netlist
  stands_wired : (x : ℕ) → x < size N → is_register (element_at N x) ≡ false → f.keeps x ≡ true → Wire N f x → (c : ℕ) × Stands N f Z x c
  stands_wired x h o y w = (
    copy_on N f Z w.reader w.operand,
    record {
      inside = h;
      other = o;
      kept = y;
      copy = subst (λ (u : ℕ). has (copy_on N f Z w.reader w.operand) (copies N f Z u) ≡ true) w.from
          (copy_on_lem N f Z w.reader w.operand w.inside (stays_if N f Z w.reader w.other w.kept) w.used (subst (λ (u : ℕ). stays N f Z u ≡ true) (sym w.from) (stays_if N f Z x o y)));
    },
  )

  pub stands_some : (x : ℕ) → x < size N → is_register (element_at N x) ≡ false → f.keeps x ≡ true → (c : ℕ) × Stands N f Z x c
  stands_some x h o y =
      ⊎_elim (λ t. stands_wired x h o y (wire_from N f ok x h y (rom_ports x t).0 (rom_ports x t).1 o))
      (λ t. (0, record { inside = h; other = o; kept = y; copy = rw (plain_copies x (stays_if N f Z x o y) t) })) (true_or_false (memory_at N x))
