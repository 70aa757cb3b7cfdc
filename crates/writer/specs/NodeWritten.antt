-- The field of a node whose element is known: the room that it takes, and its bytes, piece after piece. Assumes nothing.
use Rattle.std.specs.Prelude.{◌≡◌, refl, List, [], ◌∷◌, ◌++◌, ℕ, ◌+◌, ◌*◌, length, get_or}
use Rattle.std.proofs.Common.{ap, sym, ◌∙◌, append-nil, arith, length-append}
use Rattle.std.proofs.Math.Path.{ap₂}
use Rattle.words.specs.Words.{bytes}
use Rattle.words.specs.Gates.{operands_of}
use Rattle.words.specs.declared.Op.{Op}
use Rattle.netlist.specs.declared.Element.{Element}
use Rattle.netlist.specs.declared.Element.TheVariants.{Gate}
use Rattle.netlist.specs.declared.Node.{Node}
use Rattle.netlist.specs.Net.{operands}
use Rattle.netlist.specs.NodeField.{kind_of, op_number, op_extra, before_sources, after_sources, source_bytes, node_content}
use Rattle.netlist.specs.File.{node_bytes}
use Rattle.codec.proofs.ContentLength.{content-sum, length-content, sources-more}

-- the length of the content, as an arm of the writer works it out: kind and width, what stands around the sources, and two bytes for each source
abbrev pub content_sum : Element → ℕ
content_sum e = 2 + length (before_sources e ++ after_sources e) + 2 * operands e

-- a field of this length, of an element, of a width, with these bytes for its sources
abbrev laid : ℕ → Element → ℕ → List ℕ → List ℕ
laid n e w s = 3 ∷ bytes n ++ kind_of e ∷ w ∷ before_sources e ++ s ++ after_sources e

-- for each arm of the writer, which knows the element: the room that the field takes, and that what the arm writes is the field
module _ (x : Node) (three : length x.sources ≡ 3) {e : Element} (known : x.element ≡ e) where
  sized : length (node_content x) ≡ content_sum e
  sized = omega (arith, length-content x three, content-sum x.element, length-append (before_sources x.element) (after_sources x.element), ap content_sum known)

  pub node_room : length (node_bytes x) ≡ 3 + content_sum e
  node_room = omega (arith, sized)

  pub node_laid : laid (content_sum e) e x.width (source_bytes (operands e) x.sources) ≡ node_bytes x
  unfolding node_content
  node_laid = ap₂ (λ (n : ℕ) (y : Element). laid n y x.width (source_bytes (operands y) x.sources)) (sym sized) (sym known)

  -- with one source
  pub one_source-laid : operands e ≡ 1 → laid (content_sum e) e x.width (bytes (get_or x.sources 0 0)) ≡ node_bytes x
  one_source-laid one =
      let source = ap (λ (n : ℕ). source_bytes n x.sources) one ∙ sources-more x.sources 0 (omega arith) in
      ap (laid (content_sum e) e x.width) (sym source) ∙ node_laid

-- a gate as a node
abbrev pub gate : Op → ℕ → List ℕ → Node
gate o w s = record { element = Gate o; width = w; sources = s }

-- for the arm of the gates that have their sources only
pub bare-laid : (o : Op) (w : ℕ) (s : List ℕ) → length s ≡ 3 → op_extra o ≡ [] → {n k : ℕ} → n ≡ operands_of o → k ≡ op_number o
    → 3 ∷ bytes (3 + 2 * n) ++ 5 ∷ w ∷ k ∷ source_bytes n s ≡ node_bytes (gate o w s)
bare-laid o w s three bare counted numbered =
    ap₂ (λ (n k : ℕ). 3 ∷ bytes (3 + 2 * n) ++ 5 ∷ w ∷ k ∷ source_bytes n s) counted numbered
    ∙ (rw (bare, append-nil (source_bytes (operands_of o) s)) at (node_laid (gate o w s) three refl))
