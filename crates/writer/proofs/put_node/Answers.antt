-- By the element, which tells the room that the field takes and the bytes that it is.
use mathlib.Core.Path.{◌≡◌, refl, ap, sym}
use Prim.Native.Nat.{◌+◌}
use native.Mathlib.Omega.{arith}
use lib.ListN.{length}
use Rattle.words.specs.declared.Op.{Op}
use Rattle.netlist.specs.declared.Element.{Element}
use Rattle.netlist.specs.declared.Element.TheVariants.{Gate}
use Rattle.netlist.specs.declared.Node.{Node}
use Rattle.netlist.specs.File.{node_bytes}
use Rattle.writer.specs.Written.{puts_as, puts_more}
use Rattle.writer.specs.NodeWritten.{gate, content_sum, node_room, node_laid, one_source-laid}
use borrow.Author.Rules.{rules}
use Rattle.writer.proofs.put_node.Goals as goal

-- the room that the field takes, by the element
room : (n : Node) → length n.sources ≡ 3 → {e : Element} → n.element ≡ e → length (node_bytes n) ≡ 3 + content_sum e
room n three known = node_room n three known

as-gate : (n : Node) {o : Op} → n.element ≡ Gate o → node_bytes (gate o n.width n.sources) ≡ node_bytes n
as-gate n known = ap (λ (e : Element). node_bytes (record { element = e; width = n.width; sources = n.sources })) (sym known)

pub put_front-requires : goal.put_front-requires
put_front-requires c = omega (arith, room c.args.node (search rules) c.in-Input.is)

pub put_sourced-requires : goal.put_sourced-requires
put_sourced-requires c = omega (arith, room c.args.node (search rules) c.in-Output.is)

pub put_sourced-after_source-requires : goal.put_sourced-after_source-requires
put_sourced-after_source-requires c = omega (arith, room c.args.node (search rules) c.in-Register.is)

pub put_word-requires : goal.put_word-requires
put_word-requires c = omega (arith, room c.args.node (search rules) c.in-Register.is)

pub put_sourced-after_source-requires-in-Async : goal.put_sourced-after_source-requires-in-Async
put_sourced-after_source-requires-in-Async c = omega (arith, room c.args.node (search rules) c.in-Async.is)

pub put_byte-requires : goal.put_byte-requires
put_byte-requires c = omega (arith, room c.args.node (search rules) c.in-Async.is)

pub put_sourced-after_source-requires-in-Clocked : goal.put_sourced-after_source-requires-in-Clocked
put_sourced-after_source-requires-in-Clocked c = omega (arith, room c.args.node (search rules) c.in-Clocked.is)

pub put_byte-after_table-requires : goal.put_byte-after_table-requires
put_byte-after_table-requires c = omega (arith, room c.args.node (search rules) c.in-Clocked.is)

pub put_word-requires-in-Clocked : goal.put_word-requires-in-Clocked
put_word-requires-in-Clocked c = omega (arith, room c.args.node (search rules) c.in-Clocked.is)

pub returns-in-Input : goal.returns-in-Input
returns-in-Input c =
    let laid = node_laid _ (search rules) c.in-Input.is in
    puts_as laid c.put_front.ensures

pub returns-in-Output : goal.returns-in-Output
returns-in-Output c =
    let laid = one_source-laid _ (search rules) c.in-Output.is refl in
    puts_as laid c.put_sourced.ensures

pub returns-in-Register : goal.returns-in-Register
returns-in-Register c =
    let laid = one_source-laid _ (search rules) c.in-Register.is refl in
    let source = c.put_sourced-after_source.ensures in
    puts_as laid (puts_more (omega arith) source c.put_word.ensures)

pub returns-in-Async : goal.returns-in-Async
returns-in-Async c =
    let laid = one_source-laid _ (search rules) c.in-Async.is refl in
    let source = c.put_sourced-after_source-in-Async.ensures in
    puts_as laid (puts_more (omega arith) source c.put_byte.ensures)

pub returns-in-Clocked : goal.returns-in-Clocked
returns-in-Clocked c =
    let laid = one_source-laid _ (search rules) c.in-Clocked.is refl in
    let source = c.put_sourced-after_source-in-Clocked.ensures in
    let table = c.put_byte-after_table.ensures in
    puts_as laid (puts_more (omega arith) (puts_more (omega arith) source table) c.put_word-in-Clocked.ensures)

pub put_gate-requires : goal.put_gate-requires
put_gate-requires c = omega (arith, ap length (as-gate c.args.node c.in-Gate.is))

pub returns-in-Gate : goal.returns-in-Gate
returns-in-Gate c = puts_as (as-gate c.args.node c.in-Gate.is) c.put_gate.ensures
