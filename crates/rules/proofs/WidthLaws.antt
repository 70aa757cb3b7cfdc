-- Check 7 of one node, over plain values. Assumes nothing.
use mathlib.Core.Path.{◌≡◌, refl, sym, ap, ◌∙◌}
use mathlib.Core.Logic.{◌⊎◌, ⊎_elim, inl, inr}
use mathlib.Core.Bool.{Bool, true, false, not, ◌&&◌, false≢true}
use mathlib.Core.List.{List}
use Prim.Native.Nat.{ℕ, ◌+◌, ◌%◌, ◌≤◌, ◌<◌, zero-le}
use native.Mathlib.Decide.{ℕ_discrete}
use native.Mathlib.Omega.{arith}
use lib.ListN.{get_or}
use lib.Dec.{eqb, leb}
use borrow.Author.Tests.{eq-eqb, ne_eqb}
use Rattle.lists.proofs.BelowLaws.{eqb_self}
use Rattle.words.specs.declared.Op.{Op}
use Rattle.words.specs.declared.Op.TheVariants.{Constant, Not, And, Or, Xor, Add, Subtract, Equal, Less, Choose, Part, Join}
use Rattle.netlist.specs.Net.{Table, no_table, Net, element_at, width_at, source, is_memory, table_of}
use Rattle.netlist.specs.NodeField.{op_number}
use Rattle.circuit.specs.Code.{code_of, Coded}
use Rattle.circuit.proofs.CodeLaws.{code_below}
use Rattle.netlist.specs.Verdict.{op_widths, widths_right, bad_width}
use Rattle.netlist.specs.declared.Element.{Element}
use Rattle.netlist.specs.declared.Element.TheVariants.{Input, Output, Register, Async, Clocked, Gate}
use Rattle.rules.specs.Three.{three}
use Rattle.rules.specs.Sides.{sides}

-- the two ways of a conjunction
pub and_on : (x y : Bool) {z : Bool} → x ≡ true → z ≡ y → z ≡ (x && y)
and_on x y e q = q ∙ sym (ap (λ (b : Bool). b && y) e)

pub and_off : (x y : Bool) → x ≡ false → false ≡ (x && y)
and_off x y e = sym (ap (λ (b : Bool). b && y) e)

-- a rule looks at three widths at most
op_three : (o : Op) (w : ℕ) (ws : ℕ → ℕ) → op_widths o w (three (ws 0) (ws 1) (ws 2)) ≡ op_widths o w ws
op_three (Constant v) w ws = refl
op_three Not w ws = refl
op_three And w ws = refl
op_three Or w ws = refl
op_three Xor w ws = refl
op_three Add w ws = refl
op_three Subtract w ws = refl
op_three Equal w ws = refl
op_three Less w ws = refl
op_three Choose w ws = refl
op_three (Part b) w ws = refl
op_three Join w ws = refl

right_three : (ts : List Table) (e : Element) (w : ℕ) (ws : ℕ → ℕ) → widths_right ts e w (three (ws 0) (ws 1) (ws 2)) ≡ widths_right ts e w ws
right_three ts Input w ws = refl
right_three ts Output w ws = refl
right_three ts (Register r) w ws = refl
right_three ts (Async m) w ws = refl
right_three ts (Clocked m r) w ws = refl
right_three ts (Gate o) w ws = op_three o w ws

-- a node breaks its rule, or not
pub judged : (N : Net) (v : ℕ) (r : Bool) → widths_right N.tables (element_at N v) (width_at N v) (λ p. width_at N (source N v p)) ≡ r → not r ≡ bad_width N v
unfolding bad_width
judged N v r h = ap not (sym h)

-- ---- the rules by code, but for ROMs, parts and joins, whose rules need more than equal widths

and_true : (x : Bool) → (x && true) ≡ x
and_true true = refl
and_true false = refl

module _ (w a b c : ℕ) where
  one_side : {x : Bool} → (x && (eqb w w && eqb w w)) ≡ x
  one_side {x} = rw (eqb_self w) (and_true x)

  two_sides : (x y : Bool) → (x && (y && eqb w w)) ≡ (x && y)
  two_sides x y = rw (eqb_self w, and_true y)

  of_op : (o : Op) → (code_of (Gate o) ≡ 18 → ⊥) → (code_of (Gate o) ≡ 19 → ⊥) → sides (8 + op_number o) w a b c ≡ op_widths o w (three a b c)
  of_op (Constant v) g l = rw (eqb_self w)
  of_op Not g l = one_side
  of_op And g l = two_sides (eqb a w) (eqb b w)
  of_op Or g l = two_sides (eqb a w) (eqb b w)
  of_op Xor g l = two_sides (eqb a w) (eqb b w)
  of_op Add g l = two_sides (eqb a w) (eqb b w)
  of_op Subtract g l = two_sides (eqb a w) (eqb b w)
  of_op Equal g l = two_sides (eqb a b) (eqb w 1)
  of_op Less g l = two_sides (eqb a b) (eqb w 1)
  of_op Choose g l = refl
  of_op (Part o) g l = absurd (g refl)
  of_op Join g l = absurd (l refl)

  -- ---- the same, code by code

  module _ {k : ℕ} where
    same : {x : Bool} (j : ℕ) → x ≡ sides j w a b c → k ≡ j → x ≡ sides k w a b c
    same j q e = q ∙ ap (λ (i : ℕ). sides i w a b c) (sym e)

    pub none_sides : (k ≡ 0) ⊎ (k ≡ 8) → true ≡ sides k w a b c
    none_sides = ⊎_elim (same 0 (sym (rw (eqb_self w)))) (same 8 (sym (rw (eqb_self w))))

    pub one_sided : (k ≡ 1) ⊎ (k ≡ 2) ⊎ (k ≡ 9) → eqb a w ≡ sides k w a b c
    one_sided = ⊎_elim (same 1 (sym one_side)) (⊎_elim (same 2 (sym one_side)) (same 9 (sym one_side)))

    pub two_sided : (k ≡ 10) ⊎ (k ≡ 11) ⊎ (k ≡ 12) ⊎ (k ≡ 13) ⊎ (k ≡ 14) → (eqb a w && eqb b w) ≡ sides k w a b c
    two_sided = let q = sym (two_sides (eqb a w) (eqb b w)) in ⊎_elim (same 10 q) (⊎_elim (same 11 q) (⊎_elim (same 12 q) (⊎_elim (same 13 q) (same 14 q))))

    pub compared : (k ≡ 15) ⊎ (k ≡ 16) → (eqb a b && eqb w 1) ≡ sides k w a b c
    compared = let q = sym (two_sides (eqb a b) (eqb w 1)) in ⊎_elim (same 15 q) (same 16 q)

    pub chosen : k ≡ 17 → (eqb a 1 && (eqb b w && eqb c w)) ≡ sides k w a b c
    chosen = same 17 refl

module _ (ts : List Table) (w a b c : ℕ) where
  by_code : (e : Element) → (code_of e ≡ 3 → ⊥) → (code_of e ≡ 4 → ⊥) → (code_of e ≡ 18 → ⊥) → (code_of e ≡ 19 → ⊥) → sides (code_of e) w a b c ≡ widths_right ts e w (three a b c)
  by_code Input d f g l = rw (eqb_self w)
  by_code Output d f g l = one_side w a b c
  by_code (Register r) d f g l = one_side w a b c
  by_code (Async m) d f g l = absurd (d refl)
  by_code (Clocked m r) d f g l = absurd (f refl)
  by_code (Gate o) d f g l = of_op w a b c o g l

  sided_rule : (e : Element) {n : ℕ} → n ≡ code_of e → (n ≡ 3 → ⊥) → (n ≡ 4 → ⊥) → (n ≡ 18 → ⊥) → (n ≡ 19 → ⊥) → {z : Bool} → z ≡ sides n w a b c → z ≡ widths_right ts e w (three a b c)
  sided_rule e {n} p d f g l q = q ∙ ap (λ (k : ℕ). sides k w a b c) p ∙ by_code e (λ x. d (p ∙ x)) (λ x. f (p ∙ x)) (λ x. g (p ∙ x)) (λ x. l (p ∙ x))

-- ---- the codes of each

step : (k j : ℕ) {A : Type 0} → j ≤ k → (j < k → A) → (k ≡ j) ⊎ A
step k j l f = elim (ℕ_discrete k j) [
  | yes e ↦ inl e
  | no d ↦ inr (f (omega (arith, d)))
]

module _ {k : ℕ} where
  pub two_code : 9 < k → k ≤ 14 → (k ≡ 10) ⊎ (k ≡ 11) ⊎ (k ≡ 12) ⊎ (k ≡ 13) ⊎ (k ≡ 14)
  two_code l m = step k 10 l (λ a. step k 11 a (λ b. step k 12 b (λ c. step k 13 c (λ d. omega (arith, d)))))

  pub compare_code : 14 < k → k ≤ 16 → (k ≡ 15) ⊎ (k ≡ 16)
  compare_code l m = step k 15 l (λ a. omega (arith, a))

module _ {k : ℕ} (h : Coded k) where
  pub join_code : 16 < k → (k ≡ 17 → ⊥) → (k ≡ 18 → ⊥) → 19 ≡ k
  join_code l a b = omega (arith, a, b, code_below h)

  pub free_code : k ≤ 9 → k % 8 ≡ 0 → (k ≡ 0) ⊎ (k ≡ 8)
  free_code l e = step k 0 zero-le (λ a. omega (arith, a, e))

  pub lone_code : k ≤ 9 → (k % 8 ≡ 0 → ⊥) → (k ≡ 3 → ⊥) → (k ≡ 4 → ⊥) → (k ≡ 1) ⊎ (k ≡ 2) ⊎ (k ≡ 9)
  lone_code l e a b = ⊎_elim (λ z. step k 1 some (λ c. step k 2 c (λ d. absurd (b (omega (arith, d, z, a)))))) (λ z. inr (inr (omega (arith, z.0, e)))) h
    where
      some : 0 < k
      some = omega (arith, e)

-- a join
join_op : (o : Op) → 19 ≡ 8 + op_number o → (w a b c : ℕ) → eqb (a + b) w ≡ op_widths o w (three a b c)
join_op Join q w a b c = refl
join_op (Constant v) q w a b c = absurd (omega arith)
join_op Not q w a b c = absurd (omega arith)
join_op And q w a b c = absurd (omega arith)
join_op Or q w a b c = absurd (omega arith)
join_op Xor q w a b c = absurd (omega arith)
join_op Add q w a b c = absurd (omega arith)
join_op Subtract q w a b c = absurd (omega arith)
join_op Equal q w a b c = absurd (omega arith)
join_op Less q w a b c = absurd (omega arith)
join_op Choose q w a b c = absurd (omega arith)
join_op (Part l) q w a b c = absurd (omega arith)

join_rule : (ts : List Table) (w a b c : ℕ) (e : Element) → 19 ≡ code_of e → {z : Bool} → z ≡ eqb (a + b) w → z ≡ widths_right ts e w (three a b c)
join_rule ts w a b c Input q r = absurd (omega arith)
join_rule ts w a b c Output q r = absurd (omega arith)
join_rule ts w a b c (Register s) q r = absurd (omega arith)
join_rule ts w a b c (Async m) q r = absurd (omega arith)
join_rule ts w a b c (Clocked m s) q r = absurd (omega arith)
join_rule ts w a b c (Gate o) q r = r ∙ join_op o q w a b c

-- ---- the same, of the widths of a node's sources

module _ (ts : List Table) (e : Element) (w : ℕ) (ws : ℕ → ℕ) {a b c : ℕ} (p : a ≡ ws 0) (q : b ≡ ws 1) (r : c ≡ ws 2) where
  as_read : widths_right ts e w (three a b c) ≡ widths_right ts e w ws
  as_read = (λ i. widths_right ts e w (three (p i) (q i) (r i))) ∙ right_three ts e w ws

  pub node_sided : {n : ℕ} → n ≡ code_of e → (n ≡ 3 → ⊥) → (n ≡ 4 → ⊥) → (n ≡ 18 → ⊥) → (n ≡ 19 → ⊥) → {z : Bool} → z ≡ sides n w a b c → z ≡ widths_right ts e w ws
  node_sided k d f g l s = sided_rule ts w a b c e k d f g l s ∙ as_read

  pub node_joined : 19 ≡ code_of e → {z : Bool} → z ≡ eqb (a + b) w → z ≡ widths_right ts e w ws
  node_joined k s = join_rule ts w a b c e k s ∙ as_read

-- ---- a ROM, by its table

rom_rule : (ts : List Table) (e : Element) (w : ℕ) (ws : ℕ → ℕ) → is_memory e ≡ true
    → (eqb (ws 0) (get_or ts (table_of e) no_table).bits && eqb w (get_or ts (table_of e) no_table).wide) ≡ widths_right ts e w ws
rom_rule ts Input w ws m = absurd (false≢true m)
rom_rule ts Output w ws m = absurd (false≢true m)
rom_rule ts (Register r) w ws m = absurd (false≢true m)
rom_rule ts (Async x) w ws m = refl
rom_rule ts (Clocked x r) w ws m = refl
rom_rule ts (Gate o) w ws m = absurd (false≢true m)

module _ (ts : List Table) (e : Element) (m : is_memory e ≡ true) {k : ℕ} (q : k ≡ table_of e) (w a : ℕ) (ws : ℕ → ℕ) (f : ws 0 ≡ a) where
  abbrev own : ℕ → Table
  own j = get_or ts j no_table

  pub memory_on : a ≡ (own k).bits → (r : Bool) → r ≡ eqb w (own k).wide → r ≡ widths_right ts e w ws
  memory_on h r g =
      and_on (eqb (ws 0) (own (table_of e)).bits) (eqb w (own (table_of e)).wide)
      (eq-eqb (ws 0) (own (table_of e)).bits (f ∙ h ∙ ap (λ (j : ℕ). (own j).bits) q)) (g ∙ ap (λ (j : ℕ). eqb w (own j).wide) q)
      ∙ rom_rule ts e w ws m

  pub memory_off : (a ≡ (own k).bits → ⊥) → false ≡ widths_right ts e w ws
  memory_off h =
      and_off (eqb (ws 0) (own (table_of e)).bits) (eqb w (own (table_of e)).wide)
      (ne_eqb (ws 0) (own (table_of e)).bits (λ g. h (sym f ∙ g ∙ sym (ap (λ (j : ℕ). (own j).bits) q))))
      ∙ rom_rule ts e w ws m

-- ---- a part, by its lowest bit

pub part_rule : (ts : List Table) {e : Element} {low : ℕ} → Gate (Part low) ≡ e → (w a : ℕ) (ws : ℕ → ℕ) → ws 0 ≡ a → leb (low + w) a ≡ widths_right ts e w ws
part_rule ts {e} {low} q w a ws f = sym (ap (leb (low + w)) f) ∙ ap (λ (x : Element). widths_right ts x w ws) q
