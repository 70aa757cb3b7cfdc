-- Laws of what specs/Respelled.antt defines. Assumes nothing.
use Rattle.std.specs.Prelude.{◌≡◌, refl, Bool, ◌&&◌, ◌||◌, List, [], ◌∷◌, map, length, get_or, eqb, ltb}
use Rattle.std.proofs.Common.{sym, ◌∙◌}
use Rattle.std.proofs.Math.Path.{ap, ap₂, fun_ext}
use Rattle.std.proofs.Math.Bool.{not}
use Prim.Native.Nat.{ℕ, zero, suc}
use Rattle.std.proofs.lemmas.List.{length-map}
use Rattle.lists.specs.Lists.{any_below}
use Rattle.netlist.specs.declared.Element.{Element}
use Rattle.netlist.specs.Verdict.{Verdict, table_there, no_source, bad_source, widths_right, bad_width, unread, table_in_use, unread_table, in_loop, in_ring, at_lowest, verdict, reader_stages, reader_verdict}
use Rattle.netlist.specs.declared.Element.TheVariants.{Input, Output, Register, Async, Clocked, Gate}
use Rattle.netlist.specs.Net.{Table, no_table, spelled, Net, size, node_at, element_at, width_at, source, operands, table_no}
use Rattle.netlist.specs.Reach.{reads_test, reached_first, reached_next, reached_after, reaches_itself}
use Rattle.netlist.specs.Respelled.{AnswerAlike, TablesAlike, Respelled, over, spelled_table, spelled_net}

pub respelled_is : {N M : Net} → Respelled N M → over M.tables N ≡ M
respelled_is {N} {M} r = λ i. record { tables = M.tables; nodes = r.nodes i }

-- ---- checks 6 to 10, and 17

module _ (ts us : List Table) (a : TablesAlike ts us) where
  there_alike : (e : Element) → table_there ts e ≡ table_there us e
  there_alike Input = refl
  there_alike Output = refl
  there_alike (Register r) = refl
  there_alike (Async m) = ap (ltb (table_no m)) a.count
  there_alike (Clocked m r) = ap (ltb (table_no m)) a.count
  there_alike (Gate o) = refl

  widths_alike : (e : Element) (w : ℕ) (ws : ℕ → ℕ) → widths_right ts e w ws ≡ widths_right us e w ws
  widths_alike Input w ws = refl
  widths_alike Output w ws = refl
  widths_alike (Register r) w ws = refl
  widths_alike (Async m) w ws = let b = a.each (table_no m) in ap₂ (λ (x y : ℕ). eqb (ws 0) x && eqb w y) b.bits b.wide
  widths_alike (Clocked m r) w ws = let b = a.each (table_no m) in ap₂ (λ (x y : ℕ). eqb (ws 0) x && eqb w y) b.bits b.wide
  widths_alike (Gate o) w ws = refl

module _ (N : Net) (us : List Table) (a : TablesAlike N.tables us) where
  sources_alike : bad_source N ≡ bad_source (over us N)
  unfolding bad_source element_at source node_at
  sources_alike =
      fun_ext (λ v. ap (λ (b : Bool). not b || any_below (operands (element_at N v)) (λ p. no_source N (source N v p))) (there_alike N.tables us a (element_at N v)))

  bad_widths_alike : bad_width N ≡ bad_width (over us N)
  unfolding bad_width element_at width_at source node_at
  bad_widths_alike = fun_ext (λ v. ap not (widths_alike N.tables us a (element_at N v) (width_at N v) (λ p. width_at N (source N v p))))

  over_verdict : reader_verdict N ≡ reader_verdict (over us N)
  unfolding reader_verdict reader_stages unread unread_table table_in_use reads_test in_loop in_ring reaches_itself reached_after reached_next reached_first element_at source node_at
  over_verdict = ap₂ (λ (six seven : ℕ → Bool). stages_by six seven (length N.tables)) sources_alike bad_widths_alike ∙ ap (stages_by (bad_source (over us N)) (bad_width (over us N))) a.count
    where
      stages_by : (ℕ → Bool) → (ℕ → Bool) → ℕ → Verdict
      stages_by six seven n = verdict (at_lowest 6 (size N) six ∷ at_lowest 7 (size N) seven ∷ at_lowest 8 (size N) (unread N)
          ∷ at_lowest 17 n (unread_table N) ∷ at_lowest 9 (size N) (in_loop N) ∷ at_lowest 10 (size N) (in_ring N) ∷ [])

-- THE LAW: the reader says the same of both, places included
pub respelled_verdict : {N M : Net} → Respelled N M → reader_verdict N ≡ reader_verdict M
respelled_verdict {N} {M} r = over_verdict N M.tables r.tables ∙ ap reader_verdict (respelled_is r)

spelled_alike : (t : Table) → AnswerAlike t (spelled_table t)
unfolding spelled
spelled_alike t = record { bits = refl; wide = refl; words = refl }

each_spelled : (ts : List Table) (k : ℕ) → AnswerAlike (get_or ts k no_table) (get_or (map spelled_table ts) k no_table)
each_spelled [] k = record { bits = refl; wide = refl; words = refl }
each_spelled (t ∷ ts) zero = spelled_alike t
each_spelled (t ∷ ts) (suc k) = each_spelled ts k

pub spelled_respelled : (N : Net) → Respelled N (spelled_net N)
spelled_respelled N = record { nodes = refl; tables = record { count = sym (length-map N.tables spelled_table); each = each_spelled N.tables } }
