-- Which spot has which number: entries, then registers, then the constant and the chain, then the gates with their constants. Assumes nothing.
use Rattle.std.specs.Prelude.{◌≡◌, ℕ, suc, ◌+◌, ◌≤◌, ◌<◌, length, get_or}
use native.Mathlib.Omega.{arith}
use Rattle.netlist.specs.Net.{Net, element_at, operands}
use Rattle.behaviour.specs.Run.{zero_word}
use Rattle.retiming.specs.Rewrite.{Timing, Entry, Reg, places, number_of}
use Rattle.retiming.specs.Layout.{Stands}
use Rattle.retiming.proofs.LayoutLaws.{entry_within, numbered}
use Rattle.retiming.specs.Gates.{Spot, Old, One, Chain, Shown, Pick, shown_on, chain_length, chain_spots, spots, spot_number}
use Rattle.retiming.specs.GatesLayout.{no_spot, SpotSound}
use Rattle.retiming.proofs.GatesLayout.{spots_sound, chain_long}
use Rattle.retiming.proofs.GatesNumbers.{number_of_spot}
use Rattle.retiming.specs.Candidate.{Retimes}
use Rattle.plan.specs.Registers.{entry_count}
use Rattle.steering.specs.SteeringLaws.{chain_nodes}

module _ (entries wired chain : ℕ) where
  abbrev pub Ranged : ℕ → Spot → Type 0
  Ranged i (Old (Entry u c)) = i < entries
  Ranged i (Old (Reg x c p j)) = (entries ≤ i) × (i < wired)
  Ranged i One = i ≡ wired
  Ranged i (Chain k) = (i ≡ wired + suc k) × (k < chain)
  Ranged i (Shown x c p k) = wired + chain < i
  Ranged i (Pick x c p k) = wired + chain < i

module _ {N : Net} {f : Timing} {entries wired chain : ℕ} (ok : Retimes N f)
    (a : entries ≡ entry_count N f) (b : wired ≡ length (places N f (zero_word N))) (d : chain ≡ chain_length N f (zero_word N)) where
  -- where a wire has a gate, the gates stand behind the constant and the chain
  behind_chain : (x c p k : ℕ) → Stands N f (zero_word N) x c → p < operands (element_at N x) → k < shown_on N f (zero_word N) x p → length (chain_spots N f (zero_word N)) ≡ chain + 1
  behind_chain x c p k s q l =
      let some : 0 < chain = omega (arith, chain_long N f (zero_word N) ok.sourced ok.rooted ok.serves x c p s q k l) in
      let e : chain + 1 ≡ length (chain_spots N f (zero_word N)) = chain_nodes N f d (λ h. omega arith) (λ h. absurd (omega arith)) in
      omega arith

  by_number : (sp : Spot) {i : ℕ} → SpotSound N f (zero_word N) sp → spot_number N f (zero_word N) sp ≡ i → Ranged entries wired chain i sp
  unfolding spot_number number_of
  by_number (Old (Entry u c)) s e = omega (arith, entry_within N f (zero_word N) u c s)
  by_number (Old (Reg x c p j)) s e = (omega arith, omega (arith, (numbered N f (zero_word N) (Reg x c p j) s).within))
  by_number One s e = omega arith
  by_number (Chain k) s e = (omega arith, omega arith)
  by_number (Shown x c p k) (s, q, l) e = omega (arith, behind_chain x c p k s q l)
  by_number (Pick x c p k) (s, q, l) e = omega (arith, behind_chain x c p k s q l)

  -- THE LAW
  pub ranged : (i : ℕ) → i < length (spots N f (zero_word N)) → Ranged entries wired chain i (get_or (spots N f (zero_word N)) i no_spot)
  ranged i h = by_number (get_or (spots N f (zero_word N)) i no_spot) (spots_sound N f (zero_word N) i h) (number_of_spot N f (zero_word N) i h)
