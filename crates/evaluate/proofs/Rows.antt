-- A row's members are loaded one after the other. Assumes nothing.
use mathlib.Core.Path.{◌≡◌, sym, subst, ◌∙◌}
use mathlib.Core.Bool.{Bool, true, false}
use mathlib.Core.List.{List}
use Prim.Native.Nat.{ℕ, ◌+◌, ◌*◌, ◌^◌, ◌≤◌, ◌<◌}
use native.Mathlib.Omega.{arith}
use lib.ListN.{length, get_or, set}
use Rattle.lists.specs.Lists.{count_below}
use Rattle.lists.proofs.BelowLaws.{count_below-lt}
use Rattle.words.specs.Words.{word}
use Rattle.netlist.specs.Net.{Net, size, width_at}
use Rattle.behaviour.specs.Service.{fitting_bytes}
use Rattle.evaluate.specs.Rows.{row_test, row_members, row_widths, Loaded}
use Rattle.lists.proofs.SelectLaws.{member, members_count}
use Rattle.evaluate.specs.Loading.{Loading, load_none, load_take, load_other, load_wide, load_words, load_fits}
use Rattle.evaluate.specs.declared.Row.{Row}

-- the first i members have their words, whatever row they are the members of
abbrev pub Loads : Net → List ℕ → List ℕ → List ℕ → List ℕ → ℕ → Type 0
Loads N members b before after i = (row : Row) → members ≡ row_members row N → Loading (row_test row N) (λ v. width_at N v) b before after i

pub loads_none : (N : Net) (members b l : List ℕ) → Loads N members b l l 0
loads_none N members b l row e = load_none (row_test row N) (λ v. width_at N v) b l

-- member i has the next word
pub loads_more : (N : Net) {members b before after : List ℕ} {i v x : ℕ} → Loads N members b before after i → i < length members → v ≡ get_or members i 0 → x ≡ word b (2 * i)
    → x < 2 ^ width_at N v → v < length after → Loads N members b before (set after v x) (i + 1)
loads_more N {b = b} t l at is f r row e = load_take (row_test row N) (λ u. width_at N u) (size N) b (member (row_test row N) (size N) e l at) is (t row e) f r

module _ (row : Row) (N : Net) {members : List ℕ} (e : members ≡ row_members row N) where
  abbrev q : ℕ → Bool
  q = row_test row N

  abbrev w : ℕ → ℕ
  w v = width_at N v

  count : length members ≡ count_below q (size N)
  count = members_count q (size N) e

  pub is_node : {i v : ℕ} → i < length members → v ≡ get_or members i 0 → v < size N
  is_node l at = (member q (size N) e l at).low

  pub other_length : (b : List ℕ) → (length b ≡ 2 * length members → ⊥) → false ≡ fitting_bytes (row_widths row N) b
  other_length b d = sym (load_other q w (size N) b (λ h. d (omega (arith, count))))

  module _ (b : List ℕ) (h : length b ≡ 2 * length members) where
    whole : length b ≡ 2 * count_below q (size N)
    whole = omega (arith, count)

    pub too_wide : {i v x : ℕ} → i < length members → v ≡ get_or members i 0 → x ≡ word b (2 * i) → 2 ^ width_at N v ≤ x → false ≡ fitting_bytes (row_widths row N) b
    too_wide l at is f = sym (load_wide q w (size N) b (member q (size N) e l at) is whole f)

    module _ {before after : List ℕ} {i : ℕ} (f : Loads N members b before after i) (all : i ≡ length members) where
      t : Loading q w b before after (count_below q (size N))
      t = subst (Loading q w b before after) (all ∙ count) (f row e)

      pub all_fit : true ≡ fitting_bytes (row_widths row N) b
      all_fit = sym (load_fits q w (size N) b whole t)

      pub loaded : length after ≡ length before → Loaded row N b before after
      loaded kept = record { kept = kept; words = load_words q w (size N) b whole t; fit = λ v l o. t.fit v o (count_below-lt q v (size N) o l); others = t.others }
