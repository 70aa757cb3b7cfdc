-- A node of the new netlist, from its plan. Assumes nothing.
use Rattle.std.specs.Prelude.{◌≡◌, cond, List, [], ◌∷◌, length, get_or, ltb}
use Rattle.std.proofs.Math.Path.{refl, ap}
use Rattle.std.proofs.Common.{sym, ap₂, ◌∙◌, arith, lt-ltb, le-ltb}
use Rattle.std.proofs.Math.Logic.{⊎_elim}
use Prim.Native.Nat.{ℕ, zero, suc, ◌+◌, ◌-◌, ◌*◌, ◌≤◌, ◌<◌}
use Rattle.lists.proofs.BelowLaws.{lt_or_le}
use Rattle.lists.proofs.Sections.{section-read}
use Rattle.words.specs.declared.Op.TheVariants.{Constant}
use Rattle.netlist.specs.declared.Element.{Element}
use Rattle.netlist.specs.declared.Element.TheVariants.{Register, Gate}
use Rattle.netlist.specs.declared.Node.{Node}
use Rattle.netlist.specs.Net.{Net, element_at, width_at, operands, table_of}
use Rattle.behaviour.specs.Run.{zero_word}
use Rattle.retiming.specs.Rewrite.{Timing, Entry, Reg, new_element, new_table, places}
use Rattle.retiming.specs.Gates.{Spot, Old, One, Chain, Shown, Pick, spots, spot_number, picked, chained, gated_source, spot_node}
use Rattle.retiming.specs.GatesLayout.{no_spot}
use Rattle.plan.specs.Areas.{owners_in, late_in, sources_in}
use Rattle.layout.specs.Ranges.{Ranged}
use Rattle.layout.specs.Planned.{SpotHeld, Planned}
use Rattle.layout.specs.NewRow.{entry_node, register_node, constant_node, choose_node}

-- node i
abbrev pub new_node : Net → Timing → ℕ → Node
new_node N f i = spot_node N f (zero_word N) (get_or (spots N f (zero_word N)) i no_spot)

-- what stands in a list from an offset on, for the first n
abbrev pub read_by : List ℕ → ℕ → ℕ → ℕ → ℕ
read_by sources at n p = cond (ltb p n) (get_or sources (at + p) 0) 0

-- the words of the plan's area, as its sections have them
pub owner_read : (plan : List ℕ) (i : ℕ) → i < 1024 → get_or plan i 0 ≡ get_or (owners_in plan) i 0
owner_read plan i h = ap (λ (k : ℕ). get_or plan k 0) (let e : i ≡ 0 + i = omega arith in e) ∙ sym (section-read 0 1024 plan i h)

pub late-read : (plan : List ℕ) (i : ℕ) → i < 1024 → get_or plan (2048 + i) 0 ≡ get_or (late_in plan) i 0
late-read plan i h = sym (section-read 2048 1024 plan i h)

pub source-read : (plan : List ℕ) (i p : ℕ) → i < 1024 → p < 3 → get_or plan (4096 + 3 * i + p) 0 ≡ get_or (sources_in plan) (3 * i + p) 0
source-read plan i p h l =
    ap (λ (k : ℕ). get_or plan k 0) (let e : 4096 + 3 * i + p ≡ 4096 + (3 * i + p) = omega arith in e) ∙ sym (section-read 4096 3072 plan (3 * i + p) (omega arith))

first_read : (sources : List ℕ) (at : ℕ) → get_or sources (at + 0) 0 ≡ get_or sources at 0
first_read sources at = ap (λ (k : ℕ). get_or sources k 0) (let e : at + 0 ≡ at = omega arith in e)

-- ---- a node by its number

module _ (N : Net) (owners words late sources : List ℕ) (i : ℕ) where
  -- what it reads, where it has the operands of u
  abbrev pub reads_as : ℕ → List ℕ
  reads_as u = read_by sources (3 * i) (operands (element_at N u)) 0 ∷ read_by sources (3 * i) (operands (element_at N u)) 1 ∷ read_by sources (3 * i) (operands (element_at N u)) 2 ∷ []

  -- a constant of a wire has a clock, and its gate has none
  abbrev pub shown_node : Node
  shown_node =
      cond (ltb (get_or late i 0) 65534) (constant_node (width_at N (get_or owners i 0)) (get_or words i 0))
      (choose_node (width_at N (get_or owners i 0)) (get_or sources (3 * i) 0 ∷ get_or sources (3 * i + 1) 0 ∷ get_or sources (3 * i + 2) 0 ∷ []))

  pub record NodeBy (entries wired chain : ℕ) (x : Node) : Type 0 where
    pub entry : i < entries → entry_node N (get_or owners i 0) (get_or words i 0) (reads_as (get_or owners i 0)) ≡ x
    pub register : entries ≤ i → i < wired → register_node (width_at N (get_or owners i 0)) (get_or words i 0) (get_or sources (3 * i) 0) ≡ x
    pub one : i ≡ wired → constant_node 1 1 ≡ x
    pub link : wired < i → i ≤ wired + chain → register_node 1 0 (i - 1) ≡ x
    pub shown : wired + chain < i → shown_node ≡ x

node_as : {e e' : Element} {w w' a a' b b' d d' : ℕ} → e ≡ e' → w ≡ w' → a ≡ a' → b ≡ b' → d ≡ d'
    → ◌≡◌ {A = Node} (record { element = e; width = w; sources = a ∷ b ∷ d ∷ [] }) (record { element = e'; width = w'; sources = a' ∷ b' ∷ d' ∷ [] })
node_as p q r s t i = record { element = p i; width = q i; sources = r i ∷ s i ∷ t i ∷ [] }

module _ {N : Net} {f : Timing} {owners words late sources : List ℕ} {entries wired chain total : ℕ} (t : Planned N f owners words late sources entries wired chain total) (i : ℕ) where
  source-new : (u c : ℕ) → ((p : ℕ) → p < operands (element_at N u) → get_or sources (3 * i + p) 0 ≡ spot_number N f (zero_word N) (picked N f (zero_word N) u c p 0))
      → (p : ℕ) → read_by sources (3 * i) (operands (element_at N u)) p ≡ gated_source N f (zero_word N) u c p
  unfolding gated_source
  source-new u c reads p =
      ⊎_elim (λ l. rw (lt-ltb p (operands (element_at N u)) l) (reads p l)) (λ l. rw (le-ltb p (operands (element_at N u)) l)) (lt_or_le p (operands (element_at N u)))

  chain_source : (k : ℕ) → spot_number N f (zero_word N) (chained N f (zero_word N) k) ≡ length (places N f (zero_word N)) + k
  unfolding spot_number chained
  chain_source zero = refl
  chain_source (suc k) = refl

  by_spot : (sp : Spot) → Ranged entries wired chain i sp → SpotHeld N f owners words late sources i sp
      → NodeBy N owners words late sources i entries wired chain (spot_node N f (zero_word N) sp)
  unfolding spot_node new_table
  by_spot (Old (Entry u c)) r (o, w, reads) = record {
    entry = λ l.
        ap (λ (v : ℕ). entry_node N v (get_or words i 0) (reads_as N owners words late sources i v)) o
        ∙ node_as (ap (new_element (element_at N u) (table_of (element_at N u))) w) refl (source-new u c reads 0) (source-new u c reads 1) (source-new u c reads 2);
    register = λ a b. absurd (omega arith);
    one = λ e. absurd (omega arith);
    link = λ a b. absurd (omega arith);
    shown = λ l. absurd (omega arith);
  }
  by_spot (Old (Reg x c p j)) r (o, w, from) = record {
    entry = λ l. absurd (omega arith);
    register = λ a b. node_as (ap Register w) (ap (width_at N) o) from refl refl;
    one = λ e. absurd (omega arith);
    link = λ a b. absurd (omega arith);
    shown = λ l. absurd (omega arith);
  }
  by_spot One r g = record {
    entry = λ l. absurd (omega arith);
    register = λ a b. absurd (omega arith);
    one = λ e. refl;
    link = λ a b. absurd (omega arith);
    shown = λ l. absurd (omega arith);
  }
  by_spot (Chain k) r g = record {
    entry = λ l. absurd (omega arith);
    register = λ a b. absurd (omega arith);
    one = λ e. absurd (omega arith);
    link = λ a b. node_as refl refl (omega (arith, chain_source k)) refl refl;
    shown = λ l. absurd (omega arith);
  }
  by_spot (Shown x c p k) r (o, w, clock) = record {
    entry = λ l. absurd (omega arith);
    register = λ a b. absurd (omega arith);
    one = λ e. absurd (omega arith);
    link = λ a b. absurd (omega arith);
    shown = λ l. rw (lt-ltb (get_or late i 0) 65534 clock) (node_as (ap (λ (v : ℕ). Gate (Constant v)) w) (ap (width_at N) o) refl refl refl);
  }
  by_spot (Pick x c p k) r (o, clock, steer, later, first) = record {
    entry = λ l. absurd (omega arith);
    register = λ a b. absurd (omega arith);
    one = λ e. absurd (omega arith);
    link = λ a b. absurd (omega arith);
    shown = λ l. rw (le-ltb (get_or late i 0) 65534 (omega arith)) (node_as refl (ap (width_at N) o) steer later first);
  }

  -- THE LAW
  pub node_by : i < total → NodeBy N owners words late sources i entries wired chain (new_node N f i)
  node_by h = by_spot (get_or (spots N f (zero_word N)) i no_spot) (t.ranged i h) (t.held i h)

-- ---- as the code reads it

module _ (N : Net) (owners words late sources : List ℕ) (i : ℕ) {v : ℕ} (o : v ≡ get_or owners i 0) where
  pub entry_as : {x n a b d : ℕ} → x ≡ get_or words i 0 → n ≡ operands (element_at N v)
      → a ≡ read_by sources (3 * i) n 0 → b ≡ read_by sources (3 * i) n 1 → d ≡ read_by sources (3 * i) n 2
      → entry_node N v x (a ∷ b ∷ d ∷ []) ≡ entry_node N (get_or owners i 0) (get_or words i 0) (reads_as N owners words late sources i (get_or owners i 0))
  entry_as {x} w n a b d =
      node_as refl refl (a ∙ ap (λ (k : ℕ). read_by sources (3 * i) k 0) n) (b ∙ ap (λ (k : ℕ). read_by sources (3 * i) k 1) n) (d ∙ ap (λ (k : ℕ). read_by sources (3 * i) k 2) n)
      ∙ ap₂ (λ (u y : ℕ). entry_node N u y (reads_as N owners words late sources i u)) o w

  module _ {w : ℕ} (width : w ≡ width_at N v) where
    as_wide : w ≡ width_at N (get_or owners i 0)
    as_wide = width ∙ ap (width_at N) o

    pub register_as : {x a : ℕ} → x ≡ get_or words i 0 → a ≡ read_by sources (3 * i) 1 0
        → register_node w x a ≡ register_node (width_at N (get_or owners i 0)) (get_or words i 0) (get_or sources (3 * i) 0)
    register_as x a = node_as (ap Register x) as_wide (a ∙ first_read sources (3 * i)) refl refl

    module _ {k : ℕ} (clock : k ≡ get_or late i 0) where
      pub constant_as : {x : ℕ} → x ≡ get_or words i 0 → k < 65534 → constant_node w x ≡ shown_node N owners words late sources i
      constant_as x l = rw (lt-ltb (get_or late i 0) 65534 (omega arith)) (node_as (ap (λ (y : ℕ). Gate (Constant y)) x) as_wide refl refl refl)

      pub gate_as : {a b d : ℕ} → a ≡ read_by sources (3 * i) 3 0 → b ≡ read_by sources (3 * i) 3 1 → d ≡ read_by sources (3 * i) 3 2 → 65534 ≤ k
          → choose_node w (a ∷ b ∷ d ∷ []) ≡ shown_node N owners words late sources i
      gate_as a b d l = rw (le-ltb (get_or late i 0) 65534 (omega arith)) (node_as refl as_wide (a ∙ first_read sources (3 * i)) b d)
