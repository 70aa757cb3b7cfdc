-- Laws of what specs/Within.antt defines. Assumes nothing.
use Rattle.std.specs.Prelude.{◌≡◌, List, [], ◌∷◌, ℕ, zero, suc, ◌+◌, ◌-◌, ◌^◌, ◌≤◌, ◌<◌, length, get_or, replicate}
use Rattle.std.proofs.Common.{zero-le, suc-le-suc, le_of_suc-le-suc, arith, length-append}
use Rattle.std.proofs.lemmas.List.{length-replicate}
use Rattle.lists.proofs.ListsLaws.{All}
use Rattle.netlist.specs.Net.{Body, Words, WithFill, spelled_in, spelled, Table, Net, no_table, nowhere, node_at, element_at, width_at}
use Rattle.netlist.specs.Checks.{BodyFits, TableFits}
use Rattle.netlist.specs.TableField.{body_words}
use Rattle.netlist.proofs.TableLaws.{filled-stored}
use Rattle.codec.specs.Within.{NodeFits, Within}

-- ---- the words that a table's field holds: a fill word more than addresses at most, and each fits

module _ (n m : ℕ) where
  body_few : (x : Body) → length (spelled_in n x) ≡ n → length (body_words x) ≤ 1 + n
  body_few (Words l) e = omega arith
  body_few (WithFill f l) e = omega (arith, length-append l (replicate (n - length l) f), length-replicate {A = ℕ} (n - length l) f)

  pub body_each : (x : Body) → ((a : ℕ) → a < length (spelled_in n x) → get_or (spelled_in n x) a 0 < m) → BodyFits x m → (a : ℕ) → a < length (body_words x) → get_or (body_words x) a 0 < m
  body_each (Words l) fit more a h = fit a h
  body_each (WithFill f l) fit more zero h = more.1
  body_each (WithFill f l) fit more (suc i) h =
      let k = le_of_suc-le-suc h in
      rw (filled-stored f l n i k) at (fit i (omega (arith, length-append l (replicate (n - length l) f))))

pub words_few : (t : Table) → TableFits t → length (body_words t.body) ≤ 1 + 2 ^ t.bits
unfolding spelled
words_few t f = body_few (2 ^ t.bits) (2 ^ t.wide) t.body f.all_words

pub words_each : (t : Table) → TableFits t → (a : ℕ) → a < length (body_words t.body) → get_or (body_words t.body) a 0 < 2 ^ t.wide
unfolding spelled
words_each t f = body_each (2 ^ t.bits) (2 ^ t.wide) t.body f.each_fits f.body_fits

-- ---- the same of the lists

pub all_at : {A : Type 0} (P : A → Type 0) (l : List A) (d : A) → ((i : ℕ) → i < length l → P (get_or l i d)) → All P l
all_at P [] d h = tt
all_at P (x ∷ l) d h = (h 0 (suc-le-suc zero-le), all_at P l d (λ i k. h (suc i) (suc-le-suc k)))

pub tables_within : (N : Net) → Within N → All TableFits N.tables
tables_within N w = all_at TableFits N.tables no_table w.fields.tables_fit

pub nodes_within : (N : Net) → Within N → All NodeFits N.nodes
unfolding node_at element_at width_at
nodes_within N w =
    all_at NodeFits N.nodes nowhere (λ v h.
    record { width_low = w.fields.width_low v h; width_high = w.fields.width_high v h; word_fits = w.fields.word_fits v h; recorded = w.records v h })
