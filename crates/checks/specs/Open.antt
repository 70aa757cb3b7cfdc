-- A file that the reader takes, opened. Assumes nothing.
use Rattle.std.specs.Prelude.{◌≡◌, refl, List, [], ◌∷◌, ℕ}
use Rattle.netlist.specs.Net.{in_clock, Net, size}
use Rattle.netlist.specs.Verdict.{in_loop, in_ring, Stage, at_lowest, Verdict, Fine, Refuses}
use Rattle.netlist.specs.File.{file_verdict, ReadAs}
use Rattle.circuit.specs.Circuit.{order_of, net_of, Circuit}
use Rattle.circuit.specs.Shown.{Shown, shown_by}
use Rattle.circuit.specs.Order.{Complete}

-- checks 9 and 10
abbrev pub from_nine : Net → List Stage
from_nine N = at_lowest 9 (size N) (in_loop N) ∷ at_lowest 10 (size N) (in_ring N) ∷ []

-- l is the circuit of the file's netlist, which the reader takes, and the order has each node after what it reads within the clock
pub record Open (s l : List ℕ) : Type 0 where
  pub file : ReadAs s (net_of s l)
  pub circuit : Circuit s l
  pub ordered : Complete in_clock (net_of s l) (order_of l)

-- what opening a file leaves in the circuit; after a refusal nothing is said of it
pub data Opened (s l : List ℕ) : Verdict → Type 0 where
  turned_away : {k p : ℕ} → file_verdict s ≡ Refuses k p → Opened s l (Refuses k p)
  taken : Open s l → Opened s l Fine

-- what is shown is the file's netlist, which the reader takes, the order has each node after what it reads within the clock, and the tables stand in the file
pub record OpenedAs (s : List ℕ) (h : Shown) : Type 0 where
  pub file : ReadAs s h.net
  pub ordered : Complete in_clock h.net h.order
  pub words : h.file ≡ s

-- as whoever reads it sees it
pub open_shown : {s l : List ℕ} → Open s l → OpenedAs s (shown_by s l)
open_shown o = record { file = o.file; ordered = o.ordered; words = refl }
