-- Each field is written whole at its offset, whichever it is.
use mathlib.Core.Path.{◌≡◌, sym, ap, ◌∙◌}
use mathlib.Core.List.{[], ◌∷◌}
use Prim.Native.Nat.{ℕ, ◌+◌, ◌-◌, ◌<◌}
use native.Mathlib.Omega.{arith}
use lib.ListN.{length}
use mathlib.Core.List.{List}
use Rattle.netlist.specs.Net.{size}
use Rattle.netlist.specs.Field.{field}
use Rattle.netlist.specs.File.{table_in, table_bytes, node_bytes}
use Rattle.netlist.specs.Offsets.{field_at}
use Rattle.netlist.proofs.Offsets.{fields_count, head_field, table-field, node_field, end-field}
use Rattle.saving.specs.Encoded.{field_fits, field_put}
use Rattle.saving.proofs.put_field.Goals as goal

pub put_head-requires : goal.put_head-requires
put_head-requires c =
    let a = c.args in
    let p = c.requires in
    let N = a.net.now.net in
    let is : field_at N a.k ≡ field 1 (1 ∷ []) = ap (field_at N) c.if-k-eq0.true ∙ head_field N in
    field_fits N p.field p.here is p.room

pub returns-then-k-eq0 : goal.returns-then-k-eq0
returns-then-k-eq0 c =
    let a = c.args in
    let p = c.requires in
    let N = a.net.now.net in
    let is : field_at N a.k ≡ field 1 (1 ∷ []) = ap (field_at N) c.if-k-eq0.true ∙ head_field N in
    let there = field_put N p.field p.here is c.put_head.ensures in
    record {
      put = there.0;
      next = there.1;
    }

pub copy_table-requires-clause-room : goal.copy_table-requires-clause-room
copy_table-requires-clause-room c =
    let a = c.args in
    let p = c.requires in
    let N = a.net.now.net in
    let low : a.k - 1 < length N.tables = omega (arith, c.if-k-eq0.false, c.if-k-tables.true, c.table_count-tables.ensures.count) in
    let place = c.table_place in
    let is : field_at N a.k ≡ table_bytes (table_in c.file.result.now place.result) = ap (field_at N) (let e : a.k ≡ 1 + (a.k - 1) = omega (arith, c.if-k-eq0.false) in e) ∙ table-field N (a.k - 1) low ∙ ap table_bytes (sym (ap (λ (s : List ℕ). table_in s place.result) c.file.ensures ∙ place.ensures.table)) in
    field_fits N p.field p.here is p.room

pub returns-then-k-tables : goal.returns-then-k-tables
returns-then-k-tables c =
    let a = c.args in
    let p = c.requires in
    let N = a.net.now.net in
    let low : a.k - 1 < length N.tables = omega (arith, c.if-k-eq0.false, c.if-k-tables.true, c.table_count-tables.ensures.count) in
    let place = c.table_place in
    let is : field_at N a.k ≡ table_bytes (table_in c.file.result.now place.result) = ap (field_at N) (let e : a.k ≡ 1 + (a.k - 1) = omega (arith, c.if-k-eq0.false) in e) ∙ table-field N (a.k - 1) low ∙ ap table_bytes (sym (ap (λ (s : List ℕ). table_in s place.result) c.file.ensures ∙ place.ensures.table)) in
    let there = field_put N p.field p.here is c.copy_table.ensures in
    record {
      put = there.0;
      next = there.1;
    }

pub put_node-requires : goal.put_node-requires
put_node-requires c =
    let a = c.args in
    let p = c.requires in
    let N = a.net.now.net in
    let v : ℕ = a.k - 1 - c.table_count-tables.result in
    let t = c.table_count-tables.ensures.count in
    let low : v < size N = omega (arith, c.if-v-node_count.true, c.node_count.ensures.count) in
    let is : field_at N a.k ≡ node_bytes c.node.result = ap (field_at N) (let e : a.k ≡ 1 + length N.tables + v = omega (arith, t, c.if-k-eq0.false, c.if-k-tables.false) in e) ∙ node_field N v low ∙ ap node_bytes (sym c.node.ensures) in
    field_fits N p.field p.here is p.room

pub returns-then-v-node_count : goal.returns-then-v-node_count
returns-then-v-node_count c =
    let a = c.args in
    let p = c.requires in
    let N = a.net.now.net in
    let v : ℕ = a.k - 1 - c.table_count-tables.result in
    let t = c.table_count-tables.ensures.count in
    let low : v < size N = omega (arith, c.if-v-node_count.true, c.node_count.ensures.count) in
    let is : field_at N a.k ≡ node_bytes c.node.result = ap (field_at N) (let e : a.k ≡ 1 + length N.tables + v = omega (arith, t, c.if-k-eq0.false, c.if-k-tables.false) in e) ∙ node_field N v low ∙ ap node_bytes (sym c.node.ensures) in
    let there = field_put N p.field p.here is c.put_node.ensures in
    record {
      put = there.0;
      next = there.1;
    }

pub put_end-requires : goal.put_end-requires
put_end-requires c =
    let a = c.args in
    let p = c.requires in
    let N = a.net.now.net in
    let t = c.table_count-tables.ensures.count in
    let n = c.node_count.ensures.count in
    let is : field_at N a.k ≡ field 4 [] = ap (field_at N) (let e : a.k ≡ 1 + length N.tables + size N = omega (arith, t, n, p.field, fields_count N, c.if-k-eq0.false, c.if-k-tables.false, c.if-v-node_count.false) in e) ∙ end-field N in
    field_fits N p.field p.here is p.room

pub returns : goal.returns
returns c =
    let a = c.args in
    let p = c.requires in
    let N = a.net.now.net in
    let t = c.table_count-tables.ensures.count in
    let n = c.node_count.ensures.count in
    let is : field_at N a.k ≡ field 4 [] = ap (field_at N) (let e : a.k ≡ 1 + length N.tables + size N = omega (arith, t, n, p.field, fields_count N, c.if-k-eq0.false, c.if-k-tables.false, c.if-v-node_count.false) in e) ∙ end-field N in
    let there = field_put N p.field p.here is c.put_end.ensures in
    record {
      put = there.0;
      next = there.1;
    }
