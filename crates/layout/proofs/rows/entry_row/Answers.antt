-- Each word of the row by its reader.
use Rattle.std.proofs.Common.{Bool, cond, ap, ◌∙◌}
use Rattle.lists.specs.Lists.{one}
use Rattle.circuit.specs.Shown.{Shown}
use Rattle.evaluate.proofs.Counted.{counted_one}
use Rattle.layout.specs.NewRow.{part_byte, entry_row}
use Rattle.layout.proofs.rows.entry_row.Goals as goal

pub returns : goal.returns
returns c =
    let a = c.args in
    let N = a.net.now.net in
    let p = c.parts in
    let rom = c.from.ensures ∙ counted_one _ ∙ ap one c.is_async_rom.ensures in
    let held = c.held-number.ensures ∙ ap (λ (b : Bool). cond b a.word c.number.result) c.is_memory.ensures in
    entry_row N a.u a.word a.sources c.code.ensures.code rom c.source_count.ensures.count c.number.ensures.number
    (part_byte p.result.0.now p.result.1.now p.ensures.circuit (ap (λ (h : Shown). h.net) p.ensures.shown) a.u c.requires c.number.ensures.number) held
    c.table.ensures.table c.table.ensures.byte c.width.ensures.width c.width.ensures.byte
