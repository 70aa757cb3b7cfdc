-- What a contract asks of a circuit. Assumes nothing.
use Rattle.std.specs.Prelude.{◌≡◌, List, ℕ}
use seplogic.Ra.Ura.{Ura}
use base.Logic.{SProp, sep}
use contract.Monad.{fact}
use Rattle.netlist.specs.Net.{Net}
use Rattle.circuit.specs.Circuit.{net_of, Circuit}

-- l is a circuit of the file s, the contract calls its netlist N, and P holds. (The tie is an assertion of its own: a caller's N is found from it.)
abbrev pub opened : {M : Type 1} (𝓤 : Ura M) → List ℕ → List ℕ → Net → Type 0 → SProp 𝓤
opened 𝓤 s l N P = sep 𝓤 (fact 𝓤 (net_of s l ≡ N)) (fact 𝓤 (Circuit s l × P))
