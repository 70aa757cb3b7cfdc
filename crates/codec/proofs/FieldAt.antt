-- A field at an offset of a file: what is read there, and the step that it is. Assumes nothing.
use Rattle.std.specs.Prelude.{◌≡◌, refl, true, ℕ, ◌+◌, ◌≤◌, ◌<◌, length, get_or, drop, eqb}
use Rattle.std.proofs.Math.Path.{ap, ap₂, sym}
use Rattle.std.proofs.Common.{◌∙◌, add-zero, arith, length-append, length-drop, get_or-drop, drop-drop}
use mathlib.Core.List.{List, [], ◌++◌}
use Rattle.std.proofs.Math.Seq.{take-append_seam, drop-append_seam}
use Rattle.lists.specs.Paths.{pick}
use Rattle.lists.proofs.Paths.{on_true, on_lt, off_lt, on_eq}
use Rattle.netlist.specs.Net.{Body, Words, WithFill}
use Rattle.netlist.specs.Field.{tag_at, length_at, field_end, content, field}
use Rattle.netlist.specs.NodeField.{node_read}
use Rattle.netlist.specs.TableField.{body_tag, table_good}
use Rattle.netlist.specs.Scan.{Refuse, TableField, NodeField, EndField, table_step, node_step, end_step, step_at}
use Rattle.codec.proofs.WordsLaws.{word-drop, word_back}

-- from the offset on the file is a field with this tag and content, and then `rest`
module _ (s : List ℕ) (at tag : ℕ) (c rest : List ℕ) (here : drop at s ≡ field tag c ++ rest) where
  pub tag_here : tag_at s at ≡ tag
  tag_here = ap (λ (k : ℕ). get_or s k 0) (sym (add-zero at)) ∙ sym (get_or-drop at s 0 0) ∙ ap (λ (l : List ℕ). get_or l 0 0) here

  pub length_here : length_at s at ≡ length c
  length_here = sym (word-drop s at 1) ∙ rw here (word_back (length c))

  after_start : drop (at + 3) s ≡ c ++ rest
  after_start = sym (drop-drop 3 at s) ∙ rw here

  pub content_here : content s at ≡ c
  content_here = rw (length_here, after_start) (take-append_seam c rest)

  pub next_here : drop (field_end s at) s ≡ rest
  next_here = sym (drop-drop (length_at s at) (at + 3) s) ∙ rw (length_here, after_start) (drop-append_seam c rest)

  inside_here : field_end s at ≤ length s
  inside_here = omega (arith, length_here, length-drop at s, ap length here, length-append c rest)

  -- it is not cut off, so the tag decides
  by_tag : (t n : ℕ) → step_at s at t n ≡ pick (eqb tag 2) (table_step s at t n) (pick (eqb tag 3) (node_step s at n) (pick (eqb tag 4) (end_step s at) (pick (eqb tag 5) (table_step s at t n) (Refuse 3 at))))
  unfolding step_at
  by_tag t n =
      let inside = inside_here in
      sym (off_lt _ _ (length s) (at + 3) (omega arith) (off_lt _ _ (length s) (field_end s at) inside (rw tag_here)))

-- both tags of a table go to the same step
by_table : (s : List ℕ) (at : ℕ) (b : Body) (t : ℕ) → pick (eqb (body_tag b) 2) (table_step s at t 0) (pick (eqb (body_tag b) 3) (node_step s at 0)
    (pick (eqb (body_tag b) 4) (end_step s at) (pick (eqb (body_tag b) 5) (table_step s at t 0) (Refuse 3 at)))) ≡ table_step s at t 0
unfolding pick
by_table s at (Words l) t = refl
by_table s at (WithFill f l) t = refl

module _ (s : List ℕ) (at : ℕ) (c rest : List ℕ) where
  pub table_here : (b : Body) → drop at s ≡ field (body_tag b) c ++ rest → (t : ℕ) → t < 16 → table_good (body_tag b) c ≡ true → step_at s at t 0 ≡ TableField (field_end s at)
  unfolding table_step pick
  table_here b here t few good =
      let made = ap₂ table_good (tag_here s at (body_tag b) c rest here) (content_here s at (body_tag b) c rest here) ∙ good in
      by_tag s at (body_tag b) c rest here t 0 ∙ by_table s at b t ∙ sym (on_lt _ _ t 16 few (on_true _ _ _ made refl))

  pub node_here : drop at s ≡ field 3 c ++ rest → (t n : ℕ) → n < 1024 → (node_read c).good ≡ true → step_at s at t n ≡ NodeField (field_end s at)
  unfolding node_step pick
  node_here here t n few good =
      let made = ap (λ (l : List ℕ). (node_read l).good) (content_here s at 3 c rest here) ∙ good in
      by_tag s at 3 c rest here t n ∙ sym (on_lt _ _ n 1024 few (on_true _ _ _ made refl))

pub end_here : (s : List ℕ) (at : ℕ) → drop at s ≡ field 4 [] → (t n : ℕ) → step_at s at t n ≡ EndField
unfolding end_step pick
end_here s at here t n =
    by_tag s at 4 [] [] here t n
    ∙ sym (on_eq _ _ _ _ (length_here s at 4 [] [] here) (on_eq _ _ (at + 3) (length s) (omega (arith, length-drop at s, ap length here)) refl))
