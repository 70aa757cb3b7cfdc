-- What is known of memories: each is asynchronous or clocked; its table is there where 6 passes; and who reads a table is a memory over it. Assumes nothing.
use Rattle.std.specs.Prelude.{◌≡◌, refl, true, List, ℕ, ◌+◌, ◌<◌, length}
use Rattle.std.proofs.lemmas.Bool.{false≢true}
use Rattle.lists.specs.Lists.{one}
use Rattle.lists.proofs.BelowLaws.{eqb-true, eqb_self}
use Rattle.netlist.specs.declared.Element.{Element}
use Rattle.netlist.specs.declared.Element.TheVariants.{Input, Output, Register, Async, Clocked, Gate}
use Rattle.netlist.specs.Net.{Table, table_of, is_async, is_clocked, is_memory}
use Rattle.netlist.specs.Verdict.{reads_table}
use Rattle.netlist.specs.Checks.{HasTable}

pub memory_kinds : (e : Element) → one (is_async e) + one (is_clocked e) ≡ one (is_memory e)
memory_kinds Input = refl
memory_kinds Output = refl
memory_kinds (Register r) = refl
memory_kinds (Async m) = refl
memory_kinds (Clocked m r) = refl
memory_kinds (Gate o) = refl

pub own-table : (ts : List Table) (e : Element) → HasTable ts e → is_memory e ≡ true → table_of e < length ts
own-table ts Input r h = absurd (false≢true h)
own-table ts Output r h = absurd (false≢true h)
own-table ts (Register q) r h = absurd (false≢true h)
own-table ts (Async m) r h = r
own-table ts (Clocked m q) r h = r
own-table ts (Gate o) r h = absurd (false≢true h)

pub reads_own : (e : Element) → is_memory e ≡ true → reads_table e (table_of e) ≡ true
reads_own e h = rw h (eqb_self (table_of e))

pub reads_only : (e : Element) (m : ℕ) → reads_table e m ≡ true → (is_memory e ≡ true) × (table_of e ≡ m)
reads_only Input m h = absurd (false≢true h)
reads_only Output m h = absurd (false≢true h)
reads_only (Register r) m h = absurd (false≢true h)
reads_only (Async k) m h = (refl, eqb-true h)
reads_only (Clocked k r) m h = (refl, eqb-true h)
reads_only (Gate o) m h = absurd (false≢true h)
