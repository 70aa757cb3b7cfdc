-- The field of a table is the field that stands in the file. Assumes nothing.
use Rattle.std.specs.Prelude.{◌≡◌, List, ℕ, ◌+◌, ◌-◌, length, take, drop}
use Rattle.std.proofs.Common.{sym, ap, ◌∙◌, arith, length-drop, length-take-le}
use Rattle.netlist.specs.Field.{length_at}
use Rattle.netlist.specs.ScanLaws.{TableAt}
use Rattle.netlist.specs.File.{table_in, table_bytes}
use Rattle.codec.specs.Bytes.{Bytes}
use Rattle.codec.proofs.FieldCame.{table-field_as_it_came}

module _ (s : List ℕ) (at : ℕ) (t : TableAt s at) (b : Bytes s) where
  pub table-size : length (table_bytes (table_in s at)) ≡ 3 + length_at s at
  table-size = sym (ap length (table-field_as_it_came s b at t)) ∙ length-take-le (3 + length_at s at) (drop at s) (omega (arith, t.inside, length-drop at s))

  pub table_copied : {n : ℕ} → n ≡ length (table_bytes (table_in s at)) → take (at + n - at) (drop at s) ≡ table_bytes (table_in s at)
  table_copied {n} e =
      let k : at + n - at ≡ 3 + length_at s at = omega (arith, table-size) in
      ap (λ (j : ℕ). take j (drop at s)) k ∙ table-field_as_it_came s b at t
