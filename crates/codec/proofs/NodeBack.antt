-- A node's content reads back as the node. Assumes nothing.
use Rattle.std.specs.Prelude.{◌≡◌, true, List, [], ◌∷◌, ◌++◌, ℕ, zero, suc, ◌+◌, ◌*◌, ◌/◌, ◌%◌, ◌^◌, ◌<◌, ◌≤◌, length, get_or, take, ltb, Some, None}
use Rattle.std.proofs.Math.Path.{refl, ap, sym}
use Rattle.std.proofs.Common.{◌∙◌, append_assoc, arith, get_or-take, length-take-le, ext_get_or}
use Rattle.lists.specs.Paths.{pick}
use Rattle.lists.proofs.Paths.{on_lt, off_lt, off_eq, arms_lt}
use Rattle.words.specs.Words.{word, fits}
use Rattle.words.specs.declared.Op.{Op}
use Rattle.words.specs.declared.Op.TheVariants.{Constant, Not, And, Or, Xor, Add, Subtract, Equal, Less, Choose, Part, Join}
use Rattle.netlist.specs.declared.Element.{Element}
use Rattle.netlist.specs.declared.Element.TheVariants.{Input, Output, Register, Async, Clocked, Gate}
use Rattle.netlist.specs.declared.Node.{Node}
use Rattle.netlist.specs.Net.{operands}
use Rattle.netlist.specs.Checks.{OpFits, Fits}
use Rattle.netlist.specs.NodeField.{op_read, gate_read, kind_read, element_read, first_source, sources_from, node_with, node_read, kind_of, before_sources, after_sources, source_bytes, node_content}
use Rattle.codec.specs.Within.{Recorded, NodeFits}
use Rattle.codec.proofs.ContentLength.{few_sources, sources_are}
use Rattle.codec.proofs.WordsLaws.{word_back, word_past, words_back}

-- ---- the element: kind, width, what stands before the sources, the sources, and what stands after them

abbrev written : Element → ℕ → List ℕ → List ℕ
written e w l = kind_of e ∷ w ∷ before_sources e ++ source_bytes (operands e) l ++ after_sources e

-- a word that fits the width is read from its two bytes
fits-back : {A : Type 0} (f : ℕ → A) (bad : A) (v w : ℕ) → v < 2 ^ w → pick (fits (v / 256 * 256 + v % 256) w) (f (v / 256 * 256 + v % 256)) bad ≡ f v
fits-back f bad v w h = rw (word_back v) (sym (on_lt _ _ _ _ h refl))

module _ (w a b c : ℕ) where
  op_back : (o : Op) → OpFits o w → op_read (written (Gate o) w (a ∷ b ∷ c ∷ [])) ≡ Some o
  unfolding op_read pick
  op_back (Constant v) h = fits-back (λ k. Some (Constant k)) None v w h
  op_back Not h = refl
  op_back And h = refl
  op_back Or h = refl
  op_back Xor h = refl
  op_back Add h = refl
  op_back Subtract h = refl
  op_back Equal h = refl
  op_back Less h = refl
  op_back Choose h = refl
  op_back (Part b) h = refl
  op_back Join h = refl

  kind_back : (e : Element) → Fits e w → kind_read (kind_of e) (written e w (a ∷ b ∷ c ∷ [])) ≡ Some e
  unfolding kind_read pick
  kind_back Input h = refl
  kind_back Output h = refl
  kind_back (Register r) h = fits-back (λ k. Some (Register k)) None r w h
  kind_back (Async m) h = refl
  kind_back (Clocked m r) h = fits-back (λ k. Some (Clocked m k)) None r w h
  kind_back (Gate o) h = ap gate_read (op_back o h)

  element_back : (e : Element) → 1 ≤ w → w ≤ 16 → Fits e w → element_read (written e w (a ∷ b ∷ c ∷ [])) ≡ Some e
  unfolding element_read
  element_back e low high h =
      sym
      (off_lt _ _ (length (written e w (a ∷ b ∷ c ∷ []))) 2 (omega arith)
      (off_eq _ _ w 0 (omega arith)
      (off_lt _ _ 16 w high (sym (kind_back e h)))))

-- ---- the sources

-- a list of three is its three elements
spelt : (l : List ℕ) → length l ≡ 3 → l ≡ get_or l 0 0 ∷ get_or l 1 0 ∷ get_or l 2 0 ∷ []
spelt l e = ext_get_or 0 l _ e (λ i h. at i (omega arith))
  where
    at : (i : ℕ) → i < 3 → get_or l i 0 ≡ get_or (get_or l 0 0 ∷ get_or l 1 0 ∷ get_or l 2 0 ∷ []) i 0
    at zero h = refl
    at (suc zero) h = refl
    at (suc (suc zero)) h = refl
    at (suc (suc (suc i))) h = absurd (omega arith)

-- n sources after `before`, those from the n-th on being 0
module _ (before l after : List ℕ) (n : ℕ) (three : length l ≡ 3) (small : n ≤ 3) (unread : (p : ℕ) → n ≤ p → get_or l p 0 ≡ 0) where
  source-read : (p : ℕ) → p < n → word (before ++ source_bytes n l ++ after) (length before + 2 * p) ≡ get_or l p 0
  source-read p h =
      rw (append_assoc, sources_are, word_past, words_back (take n l) after p (rw (length-take-le n l (omega arith)) h)) (get_or-take n l p 0 h)

  source-back : (p at : ℕ) → at ≡ length before + 2 * p → pick (ltb p n) (word (before ++ source_bytes n l ++ after) at) 0 ≡ get_or l p 0
  source-back p at e = arms_lt (λ k. k ≡ get_or l p 0) _ _ p n (λ h. rw e (source-read p h)) (λ h. sym (unread p h))

  sources-back : sources_from (before ++ source_bytes n l ++ after) (length before) n ≡ l
  unfolding sources_from
  sources-back =
      (λ i. source-back 0 (length before) (omega arith) i ∷ source-back 1 (length before + 2) (omega arith) i ∷ source-back 2 (length before + 4) (omega arith) i ∷ [])
      ∙ sym (spelt l three)

-- ---- the node

first_is : (e : Element) (w : ℕ) → length (kind_of e ∷ w ∷ before_sources e) ≡ first_source e
first_is Input w = refl
first_is Output w = refl
first_is (Register r) w = refl
first_is (Async m) w = refl
first_is (Clocked m r) w = refl
first_is (Gate o) w = refl

module _ (e : Element) (w : ℕ) (l : List ℕ) where
  sources_found : length l ≡ 3 → ((p : ℕ) → operands e ≤ p → get_or l p 0 ≡ 0) → sources_from (written e w l) (first_source e) (operands e) ≡ l
  sources_found three unread = rw (← first_is e w) (sources-back (kind_of e ∷ w ∷ before_sources e) l (after_sources e) (operands e) three (few_sources e) unread)

  element_found : length l ≡ 3 → 1 ≤ w → w ≤ 16 → Fits e w → element_read (written e w l) ≡ Some e
  element_found three low high h = rw (spelt l three) (element_back w _ _ _ e low high h)

pub node_back : (x : Node) → NodeFits x → node_read (node_content x) ≡ record { good = true; node = x }
unfolding node_read node_content
node_back x f =
    let r : Recorded x = f.recorded in
    let element = element_found x.element x.width x.sources r.three f.width_low f.width_high f.word_fits in
    let sources = sources_found x.element x.width x.sources r.three r.unread in
    ap (node_with (node_content x)) element
    ∙ (λ i. record { good = true; node = record { element = x.element; width = x.width; sources = sources i } })
