-- The places of the rewritten netlist: each place that stands in it is sound, and each sound place stands at its number. Assumes nothing.
use Rattle.std.specs.Prelude.{◌≡◌, List, length}
use Rattle.std.proofs.Math.Bool.{true, false}
use Prim.Native.Nat.{ℕ, ◌<◌}
use Rattle.std.proofs.Math.ListN.{get_or}
use Rattle.lists.specs.Lists.{has}
use Rattle.netlist.specs.Net.{Net, size, element_at, operands, is_register}
use Rattle.retiming.specs.Rewrite.{Timing, Place, Entry, Reg, count_on, copies}
use Rattle.retiming.specs.Rewrite.{places, number_of}

abbrev pub no_place : Place
no_place = Entry 0 0

-- a stands at number i of a list; d is what get_or gives past its end
abbrev pub At : {A : Type 0} → A → List A → ℕ → A → Type 0
At d l i a = (i < length l) × (get_or l i d ≡ a)

module _ (N : Net) (f : Timing) (Z : ℕ → ℕ → ℕ) where
  -- a node x that stays and is no register, with one of its reset words
  pub record Stands (x c : ℕ) : Type 0 where
    pub inside : x < size N
    pub other : is_register (element_at N x) ≡ false
    pub kept : f.keeps x ≡ true
    pub copy : has c (copies N f Z x) ≡ true

  abbrev pub Sound : Place → Type 0
  Sound (Entry u c) = Stands u c
  Sound (Reg x c p j) = Stands x c × (p < operands (element_at N x)) × (j < count_on N f Z x p)

  -- ---- every sound place stands at its number

  pub record Numbered (pl : Place) : Type 0 where
    pub within : number_of N f Z pl < length (places N f Z)
    pub at : get_or (places N f Z) (number_of N f Z pl) no_place ≡ pl
