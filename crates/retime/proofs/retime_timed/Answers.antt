-- Where 13 is not said, what is laid has its tables; then what the mode leaves out.
use Rattle.std.proofs.Common.{List, ℕ, ap, subst, sym, ◌∙◌}
use Rattle.circuit.specs.Circuit.{net_of, Circuit}
use Rattle.retiming.specs.Modes.{mode_trimmed}
use Rattle.retime.specs.Laying.{IsCircuit}
use Rattle.retime.proofs.LaidLaws.{laid-new}
use Rattle.retime.proofs.LayingLaws.{laid_has}
use Rattle.retime.proofs.retime_timed.Goals as goal

pub leave_out_tables-requires-clause-circuit : goal.leave_out_tables-requires-clause-circuit
leave_out_tables-requires-clause-circuit c = subst (λ (s : List ℕ). Circuit s c.lay_timed.new.new) (sym c.file.ensures) c.in_ok-lay_timed.ensures.circuit

pub leave_out_tables-requires-clause-tables : goal.leave_out_tables-requires-clause-tables
leave_out_tables-requires-clause-tables c =
    let told = c.in_ok-lay_timed.ensures in
    let net = ap (λ (s : List ℕ). net_of s c.lay_timed.new.new) c.file.ensures ∙ told.net in
    laid_has c.args.mode c.args.net.now.net c.requires.new_is net c.requires.timed told.verdict

pub returns : goal.returns
returns c =
    let told = c.in_ok-lay_timed.ensures in
    let mode = c.args.mode in
    let h = c.args.net.now in
    let new = c.lay_timed.new.new in
    let e = c.leave_out_tables.ensures in
    let left = subst (λ (s : List ℕ). IsCircuit s c.leave_out_tables.new.new (mode_trimmed mode (net_of s new))) c.file.ensures (e.net, e.circuit) in
    let laid = laid-new mode h.net c.requires.new_is h.file new told.net left in
    record { verdict = told.verdict; net = laid.0; circuit = laid.1; lead = c.lead_told.ensures }
