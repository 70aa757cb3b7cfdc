-- By the operation, which tells the room that the field takes and the bytes that it is.
use mathlib.Core.Path.{◌≡◌, refl, ap}
use Prim.Native.Nat.{◌+◌}
use native.Mathlib.Omega.{arith}
use lib.ListN.{length}
use Rattle.words.specs.declared.Op.{Op}
use Rattle.netlist.specs.declared.Element.TheVariants.{Gate}
use Rattle.netlist.specs.declared.Node.{Node}
use Rattle.netlist.specs.File.{node_bytes}
use Rattle.codec.proofs.ContentLength.{few_sources}
use Rattle.writer.specs.Written.{puts_as, puts_more}
use Rattle.writer.specs.NodeWritten.{gate, content_sum, node_room, node_laid, one_source-laid, bare-laid}
use Rattle.writer.proofs.Cases.{no_extra}
use borrow.Author.Rules.{rules}
use Rattle.writer.proofs.put_gate.Goals as goal

-- the room that the field takes, by the operation
room : (n : Node) → length n.sources ≡ 3 → {o : Op} → n.element ≡ Gate o → length (node_bytes n) ≡ 3 + content_sum (Gate o)
room n three known = node_room n three known

pub put_operation-after_op-requires : goal.put_operation-after_op-requires
put_operation-after_op-requires c = omega (arith, room (gate c.args.op c.args.width c.args.sources) (search rules) (ap Gate c.in-Constant.is))

pub put_word-requires : goal.put_word-requires
put_word-requires c = omega (arith, room (gate c.args.op c.args.width c.args.sources) (search rules) (ap Gate c.in-Constant.is))

pub put_operation-after_op-requires-in-Part : goal.put_operation-after_op-requires-in-Part
put_operation-after_op-requires-in-Part c = omega (arith, room (gate c.args.op c.args.width c.args.sources) (search rules) (ap Gate c.in-Part.is))

pub put_word-after_source-requires : goal.put_word-after_source-requires
put_word-after_source-requires c = omega (arith, room (gate c.args.op c.args.width c.args.sources) (search rules) (ap Gate c.in-Part.is))

pub put_byte-requires : goal.put_byte-requires
put_byte-requires c = omega (arith, room (gate c.args.op c.args.width c.args.sources) (search rules) (ap Gate c.in-Part.is))

pub put_operation-after_op-requires-in_default : goal.put_operation-after_op-requires-in_default
put_operation-after_op-requires-in_default c = omega (arith, room (gate c.args.op c.args.width c.args.sources) (search rules) refl)

pub put_sources-requires-clause-sources : goal.put_sources-requires-clause-sources
put_sources-requires-clause-sources c = omega (arith, few_sources (Gate c.args.op), c.op_sources-n.ensures)

pub put_sources-requires-clause-room : goal.put_sources-requires-clause-room
put_sources-requires-clause-room c = omega (arith, room (gate c.args.op c.args.width c.args.sources) (search rules) refl, c.op_sources-n.ensures)

pub returns-in-Constant : goal.returns-in-Constant
returns-in-Constant c =
    let laid = node_laid _ (search rules) (ap Gate c.in-Constant.is) in
    let front = c.put_operation-after_op.ensures in
    puts_as laid (puts_more (omega arith) front c.put_word.ensures)

pub returns-in-Part : goal.returns-in-Part
returns-in-Part c =
    let laid = one_source-laid _ (search rules) (ap Gate c.in-Part.is) refl in
    let front = c.put_operation-after_op-in-Part.ensures in
    let source = c.put_word-after_source.ensures in
    puts_as laid (puts_more (omega arith) (puts_more (omega arith) front source) c.put_byte.ensures)

pub returns-in_default : goal.returns-in_default
returns-in_default c =
    let bare = no_extra c.args.op c.in_default.not-Constant c.in_default.not-Part in
    let laid = bare-laid _ c.args.width c.args.sources (search rules) bare c.op_sources-n.ensures c.op_number.ensures in
    let front = c.put_operation-after_op-in_default.ensures in
    puts_as laid (puts_more (omega arith) front c.put_sources.ensures)
