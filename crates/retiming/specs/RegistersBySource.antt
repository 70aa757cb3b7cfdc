-- REGISTERS BY SOURCE, whole (document 02, T-03). Take any file and any lent list. Where the preview gives a size, rewrite the file and read what was written. For each node
-- there that is no register, in order, the list has a number of two bytes, as many as the size says; its other bytes stay. A node's number counts the registers that read it,
-- those that read such registers, and so on. The numbers add up to the size's registers, and so do, over the same nodes, the registers on the wires to their operands. Where
-- the preview is refused, no byte of the list differs. This rules out a list of direct readers alone, and a refusal that has touched the list. Assumes nothing.
use Rattle.std.specs.Prelude.{◌≡◌, true, false, List, ◌++◌, ℕ, suc, ◌*◌, ◌≤◌, ◌<◌, length, take, drop}
use Rattle.lists.specs.Lists.{total}
use Rattle.netlist.specs.Net.{Net, size, element_at, source, is_register}
use Rattle.netlist.specs.File.{Decoded, bad, good, decode}
use Rattle.behaviour.specs.Service.{bytes_of}
use Rattle.retiming.specs.declared.Size.{Size}
use Rattle.retiming.specs.declared.Preview.{Preview}
use Rattle.retiming.specs.declared.Preview.TheVariants.{Fits, Refused}
use Rattle.retiming.specs.Rewrite.{passed}
use Rattle.retiming.specs.FileRewrite.{rewrite_file}
use Rattle.retiming.specs.BySource.{on_wire_from, by_source, by_reader}
use Rattle.retiming.specs.BySourceLaws.{FromSource}

-- by source: register s of a netlist M is counted at u, which is none, just when s reads u, or a register that does so
abbrev pub SourcesByHand : Net → Type 0
SourcesByHand M = (u s : ℕ) → is_register (element_at M u) ≡ false → s < size M → (on_wire_from M u s ≡ true → FromSource M u s) × (FromSource M u s → on_wire_from M u s ≡ true)

-- by reader: an operand that is no register has none on its wire; a register is one, with those on the wire to it
abbrev pub ReadersByHand : Net → Type 0
ReadersByHand M = (s : ℕ) → (is_register (element_at M s) ≡ false → passed M s ≡ 0) × (s < size M → is_register (element_at M s) ≡ true → passed M s ≡ suc (passed M (source M s 0)))

-- the list, before and after, and the sums, of the netlist that was read
abbrev pub Listed : Size → List ℕ → List ℕ → Decoded → Type 0
Listed z before after (bad k p) = ⊥
Listed z before after (good M) =
    (length (by_source M) ≡ z.sources) × (2 * z.sources ≤ length before) × (after ≡ bytes_of (by_source M) ++ drop (2 * z.sources) before)
    × (total (by_source M) ≡ z.registers) × (total (by_reader M) ≡ z.registers) × SourcesByHand M × ReadersByHand M

abbrev pub GivesList : List ℕ → List ℕ → List ℕ → Preview → Type 0
GivesList s before after (Fits z) = (out : List ℕ) → z.length ≤ length out → Listed z before after (decode (take z.length (rewrite_file s out).out))
GivesList s before after (Refused k p) = after ≡ before
