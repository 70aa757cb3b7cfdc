-- The operations by their number. Assumes nothing.
use Rattle.std.specs.Prelude.{◌≡◌, refl, List, ℕ, ◌≤◌, get_or}
use Rattle.std.proofs.Common.{sym, arith}
use Rattle.lists.proofs.Paths.{arms_eq}
use Rattle.words.specs.declared.Op.{Op}
use Rattle.words.specs.declared.Op.TheVariants.{Constant, Not, And, Or, Xor, Add, Subtract, Equal, Less, Choose, Part, Join}
use Rattle.words.specs.Words.{operand_counts}
use Rattle.netlist.specs.Net.{operands}
use Rattle.netlist.specs.NodeField.{op_number}
use Rattle.netlist.proofs.NodeLaws.{plain_number}
use Rattle.netlist.specs.declared.Element.TheVariants.{Gate}
use Rattle.nodes.specs.Unchecked.{op_unchecked}

-- ---- the number that a content's bytes give

pub op_number_lem : (c : List ℕ) → get_or c 2 0 ≤ 11 → op_number (op_unchecked c) ≡ get_or c 2 0
op_number_lem c h =
    arms_eq P _ _ (get_or c 2 0) 0 (λ e. sym e) (λ a.
    arms_eq P _ _ (get_or c 2 0) 10 (λ e. sym e) (λ b.
    plain_number (get_or c 2 0) (omega arith) a b))
  where
    P : Op → Type 0
    P o = op_number o ≡ get_or c 2 0

-- ---- how many sources the number tells

pub op_counts : (o : Op) → get_or operand_counts (op_number o) 0 ≡ operands (Gate o)
op_counts (Constant v) = refl
op_counts Not = refl
op_counts And = refl
op_counts Or = refl
op_counts Xor = refl
op_counts Add = refl
op_counts Subtract = refl
op_counts Equal = refl
op_counts Less = refl
op_counts Choose = refl
op_counts (Part b) = refl
op_counts Join = refl
