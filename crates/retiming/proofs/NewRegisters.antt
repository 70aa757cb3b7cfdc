-- The registers of the file that an accepted file is rewritten to: they stand last, and both lists add up to them. Assumes nothing.
use Rattle.std.specs.Prelude.{◌≡◌, List, ℕ, length}
use Rattle.std.proofs.Common.{sym}
use Rattle.std.proofs.Math.Path.{subst}
use Rattle.lists.specs.Lists.{total}
use Rattle.netlist.specs.Net.{Net, is_register, count_of, Sourced}
use Rattle.codec.specs.Bytes.{Bytes}
use Rattle.behaviour.specs.Run.{zero_word}
use Rattle.retiming.specs.Rewrite.{timing, rewritten}
use Rattle.retiming.specs.Wires.{Rooted}
use Rattle.retiming.proofs.Wires.{ringless_rooted}
use Rattle.retiming.specs.Candidate.{Retimes}
use Rattle.retiming.proofs.Retimed.{retimes}
use Rattle.retiming.proofs.PastDebt.{no_debt}
use Rattle.retiming.specs.RewrittenFile.{Past13}
use Rattle.retiming.proofs.RewrittenFile.{netlists_alike}
use Rattle.retiming.specs.BySource.{by_source, by_reader}
use Rattle.retiming.proofs.BySourceLaws.{total_by_source}
use Rattle.retiming.specs.RegistersLast.{RegistersLast}
use Rattle.retiming.proofs.RegistersLast.{registers_last, source_count}
use Rattle.retiming.proofs.TotalByReader.{total_by_reader}
use Rattle.retiming.specs.declared.Mode.TheVariants.{Plain}

module _ (s : List ℕ) (b : Bytes s) (t : Past13 Plain s) where
  abbrev new : Net
  new = rewritten t.net

  timed : Retimes t.net (timing t.net)
  timed = let d = no_debt t.net t.debtless in retimes t.net (netlists_alike Plain s b t).old d.0 d.1

  pub new_sourced : Sourced new
  new_sourced = (netlists_alike Plain s b t).new.sourced

  pub new_rooted : Rooted new
  new_rooted = ringless_rooted new new_sourced (netlists_alike Plain s b t).new.no_ring

  pub new_last : RegistersLast new (length (by_source new))
  unfolding rewritten
  new_last =
      let last = registers_last t.net (timing t.net) (zero_word t.net) timed new_rooted in
      subst (RegistersLast new) (sym (source_count last)) last

  pub sum_by_source : total (by_source new) ≡ count_of is_register new
  sum_by_source = total_by_source new new_sourced new_rooted

  pub sum_by_reader : total (by_reader new) ≡ count_of is_register new
  unfolding rewritten
  sum_by_reader = total_by_reader t.net (timing t.net) (zero_word t.net) timed new_rooted
