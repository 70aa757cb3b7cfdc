-- The nodes of the lines by place, in one list: input ports, what holds a word, the inner nodes in the circuit's order.
-- Behind them stand the output ports, which have no line. Assumes nothing.
use Rattle.std.specs.Prelude.{◌≡◌, Bool, true, List, ℕ, ◌+◌, ◌<◌, get_or}
use Rattle.lists.specs.Lists.{count_below}
use Rattle.netlist.specs.Net.{Net, size, element_at}
use Rattle.evaluate.specs.Rows.{row_test}
use Rattle.evaluate.specs.declared.Row.TheVariants.{Inputs, Outputs, State}
use Rattle.schedule.specs.Lines.{is_inner}
use Rattle.schedule.specs.declared.Sizes.{Sizes}

-- from place k on: h t for each t below n that passes a test
pub record ListsFrom (l : List ℕ) (k : ℕ) (q : ℕ → Bool) (h : ℕ → ℕ) (n : ℕ) : Type 0 where
  pub each : (t : ℕ) → t < n → q t ≡ true → get_or l (k + count_below q t) 0 ≡ h t

-- an inner node has its turn at t
abbrev pub inner_at : Net → List ℕ → ℕ → Bool
inner_at N order t = is_inner (element_at N (get_or order t 0))

-- each class behind the one before it, and how many it has
pub record Listed (N : Net) (order nodes : List ℕ) (z : Sizes) : Type 0 where
  pub ports : ListsFrom nodes 0 (row_test Inputs N) (λ v. v) (size N)
  pub holders : ListsFrom nodes z.inputs (row_test State N) (λ v. v) (size N)
  pub inner : ListsFrom nodes (z.inputs + z.held) (inner_at N order) (λ t. get_or order t 0) (size N)
  pub outputs : ListsFrom nodes z.lines (row_test Outputs N) (λ v. v) (size N)
  pub all_ports : z.inputs ≡ count_below (row_test Inputs N) (size N)
  pub all_holders : z.held ≡ count_below (row_test State N) (size N)
  pub all_inner : z.lines ≡ z.inputs + z.held + count_below (inner_at N order) (size N)
  pub all_outputs : z.outputs ≡ count_below (row_test Outputs N) (size N)
