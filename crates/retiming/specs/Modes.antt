-- The two modes side by side, each by its own definitions: document 01's rewriting, and the late start. One way through the code serves both. Assumes nothing.
use Rattle.std.specs.Prelude.{Bool, List, ℕ}
use Rattle.netlist.specs.Net.{Net}
use Rattle.netlist.specs.Trim.{trimmed}
use Rattle.netlist.specs.Verdict.{Verdict}
use Rattle.retiming.specs.declared.Mode.{Mode}
use Rattle.retiming.specs.declared.Mode.TheVariants.{Plain, Late}
use Rattle.retiming.specs.Leads.{closed_debt, owing_port}
use Rattle.retiming.specs.Rewrite.{Timing, timing, rewritten}
use Rattle.retiming.specs.LateLeads.{late_ends, closed_debt_to, owing_port_to}
use Rattle.retiming.specs.LateRewrite.{late_timing, late_started}
use Rattle.retiming.specs.Debt.{debt_verdict}
use Rattle.retiming.specs.LateDebt.{late_verdict}
use Rattle.retiming.specs.FileRewrite.{Rewrote, rewriter_verdict, rewritten_file, rewrite_file}
use Rattle.retiming.specs.LateFile.{late_file_verdict, late_file, late_rewrite}
use Rattle.retiming.specs.Anywhere.{anywhere}

-- where a walk that counts may end
abbrev pub mode_ends : Mode → Net → ℕ → Bool
mode_ends Plain N = anywhere
mode_ends Late N = late_ends N

-- 11, and 12 of a node
abbrev pub mode_closed : Mode → Net → Bool
mode_closed Plain N = closed_debt N
mode_closed Late N = closed_debt_to N (late_ends N)

abbrev pub mode_owing : Mode → Net → ℕ → Bool
mode_owing Plain N = owing_port N
mode_owing Late N = owing_port_to N (late_ends N)

-- when the nodes run
abbrev pub mode_timing : Mode → Net → Timing
mode_timing Plain N = timing N
mode_timing Late N = late_timing N

-- what it leaves out of its tables: document 01's rewriting nothing, since all that the old one read stays read
abbrev pub mode_trimmed : Mode → Net → Net
mode_trimmed Plain M = M
mode_trimmed Late M = trimmed M

-- the new netlist
abbrev pub mode_net : Mode → Net → Net
mode_net Plain N = rewritten N
mode_net Late N = late_started N

-- 11 to 13 of a netlist
abbrev pub mode_verdict : Mode → Net → Verdict
mode_verdict Plain N = debt_verdict N
mode_verdict Late N = late_verdict N

-- of a file: 1 to 13, the new file, and the answer with the output
abbrev pub mode_file_verdict : Mode → List ℕ → Verdict
mode_file_verdict Plain s = rewriter_verdict s
mode_file_verdict Late s = late_file_verdict s

abbrev pub mode_file : Mode → List ℕ → List ℕ
mode_file Plain s = rewritten_file s
mode_file Late s = late_file s

abbrev pub mode_rewrite : Mode → List ℕ → List ℕ → Rewrote
mode_rewrite Plain s out = rewrite_file s out
mode_rewrite Late s out = late_rewrite s out
