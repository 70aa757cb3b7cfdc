-- The width stands second in the field's content.
use mathlib.Core.Path.{◌≡◌, sym, ap, ◌∙◌}
use Prim.Native.Nat.{ℕ, ◌+◌}
use native.Mathlib.Omega.{arith}
use lib.ListN.{get_or, drop}
use Rattle.netlist.specs.Field.{content, length_at}
use Rattle.netlist.specs.File.{node_in}
use Rattle.netlist.proofs.NodeLaws.{node_facts, node_width}
use Rattle.netlist.proofs.FieldLaws.{content-length}
use lib.Seq.{get_or-drop, get_or-take}
use Rattle.reader.proofs.width_at.Goals as goal

pub bounds-file-after_kind : goal.bounds-file-after_kind
bounds-file-after_kind c =
    let s = c.args.file.now in
    let at = c.args.at in
    let p = c.requires in
    let l = content-length s at p.inside in
    let f = (node_facts (content s at) p.good).long in
    omega arith

pub returns : goal.returns
unfolding node_in
returns c =
    let s = c.args.file.now in
    let at = c.args.at in
    let p = c.requires in
    let l = content-length s at p.inside in
    let f = (node_facts (content s at) p.good).long in
    sym (node_width (content s at) p.good ∙ get_or-take (length_at s at) (drop (at + 3) s) 1 0 (omega arith) ∙ get_or-drop (at + 3) s 1 0 ∙ ap (λ (k : ℕ). get_or s k 0) (let e : at + 3 + 1 ≡ at + 4 = omega arith in e))
