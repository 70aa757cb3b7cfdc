-- Laws of what specs/LeadsServe.antt defines. Assumes nothing.
use Rattle.std.specs.Prelude.{◌≡◌, false, ℕ, ◌≤◌, ◌<◌}
use Rattle.std.proofs.Math.Path.{refl}
use Rattle.std.proofs.Common.{arith}
use Rattle.netlist.specs.Net.{Net, size, element_at, source, is_register}
use Rattle.netlist.specs.Checks.{WellFormed}
use Rattle.retiming.specs.Leads.{lead, async_here, closed_debt, port_debt}
use Rattle.retiming.specs.Rewrite.{root, own_here, memory_at, timing, timing_by}
use Rattle.netlist.proofs.Memories.{memory_kinds}
use Rattle.retiming.proofs.Wires.{wire_serves}
use Rattle.retiming.specs.Least.{ServesWires}
use Rattle.retiming.proofs.Least.{lead_least_wires}
use Rattle.retiming.specs.Candidate.{Retimes}
use Rattle.retiming.proofs.Retimed.{retimes}
use Rattle.retiming.specs.LeadsServe.{ServesNet}

module _ (N : Net) (wf : WellFormed N) (debtless : closed_debt N ≡ false) (portless : port_debt N ≡ false) where
  served : Retimes N (timing N)
  served = retimes N wf debtless portless

  serves_wires : ServesWires N (lead N)
  unfolding ServesWires memory_at own_here async_here timing timing_by lead
  serves_wires x p h o q =
      omega (arith, wire_serves N served.sourced (timing N) served.serves x p h refl q o, memory_kinds (element_at N (root N (source N x p))))

  pub leads_serve : ServesNet N (lead N)
  unfolding timing timing_by lead
  leads_serve = record { inputs = served.inputs; outputs = served.outputs; wires = serves_wires }

  pub leads_least : (g : ℕ → ℕ) → ServesNet N g → (u : ℕ) → u < size N → is_register (element_at N u) ≡ false → lead N u ≤ g u
  leads_least g s = lead_least_wires N wf.sourced served.rooted g s.wires
