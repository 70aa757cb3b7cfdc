-- A node and a table's words of an opened file, over plain values. Assumes nothing.
use Rattle.std.specs.Prelude.{◌≡◌, refl, List, ℕ, ◌≤◌, ◌<◌, length, get_or, Ok, Err}
use Rattle.std.proofs.Math.Path.{sym, ap}
use Rattle.std.proofs.Common.{ap₂, ◌∙◌, arith}
use Rattle.std.proofs.Math.ListN.{drop}
use Rattle.lists.specs.Lists.{concat_map}
use Rattle.words.specs.Words.{bytes}
use Rattle.lists.proofs.Paths.{on_lt, off_lt}
use Rattle.netlist.specs.Net.{Table, no_table, Net, size, node_at}
use Rattle.netlist.specs.Verdict.{onward, Verdict, Fine, Refuses}
use Rattle.netlist.specs.declared.Refusal.{Refusal}
use Rattle.netlist.specs.declared.Refusal.TheVariants.{Source}
use Rattle.netlist.specs.Refusal.{number_of, place_of}
use Rattle.netlist.specs.NodeField.{no_node}
use Rattle.netlist.specs.TableField.{stored, stored_from}
use Rattle.netlist.specs.Field.{tag_at, content}
use Rattle.netlist.specs.ScanLaws.{TableAt}
use Rattle.netlist.specs.File.{table_in, decode, decoded_net, file_verdict, ReadAs}
use Rattle.netlist.specs.declared.Answer.TheVariants.{Accepted, Refused}
use Rattle.netlist.specs.declared.Node.{Node}
use Rattle.codec.specs.Bytes.{Bytes}
use Rattle.codec.proofs.TableCame.{stored_as_they_came}
use Rattle.codec.proofs.FieldCame.{content-bytes}
use Rattle.checks.specs.Services.{numbered, node_by, node_of_file, words_of_net, words_by, words_of_file}
use Rattle.checks.specs.TablePlaces.{Placed}
use Rattle.checks.specs.Opens.{passed}

has_number : (v n : ℕ) → v < n → numbered v n ≡ Fine
has_number v n h = sym (on_lt _ _ v n h refl)

no_number : (v n : ℕ) → n ≤ v → numbered v n ≡ Refuses 6 65535
no_number v n h = sym (off_lt _ _ v n h refl)

-- ---- a node

pub node_refused : (s : List ℕ) (v : ℕ) {k p : ℕ} → file_verdict s ≡ Refuses k p → record { answer = Refused k p; node = no_node } ≡ node_of_file s v
unfolding node_of_file
node_refused s v e = let N = decoded_net (decode s) in sym (ap (λ (w : Verdict). node_by (onward w (numbered v (size N))) N v) e)

module _ {s : List ℕ} {N : Net} (o : ReadAs s N) where
  the_net : decoded_net (decode s) ≡ N
  the_net = ap decoded_net o.reads

  node_of : (v : ℕ) {w : Verdict} → numbered v (size N) ≡ w → node_by w N v ≡ node_of_file s v
  unfolding node_of_file
  node_of v e = sym (ap₂ (λ (M : Net) (w : Verdict). node_by (onward w (numbered v (size M))) M v) the_net (passed s o) ∙ ap (λ (w : Verdict). node_by w N v) e)

  pub node_there : (v : ℕ) {n : ℕ} → n ≡ size N → v < n → (x : Node) → x ≡ node_at N v → record { answer = Accepted n; node = x } ≡ node_of_file s v
  node_there v z h x e = (λ i. record { answer = Accepted (z i); node = e i }) ∙ node_of v (has_number v _ (omega arith))

  pub node_missing : (v : ℕ) {n : ℕ} → n ≡ size N → n ≤ v → record { answer = Refused 6 65535; node = no_node } ≡ node_of_file s v
  node_missing v z h = node_of v (no_number v _ (omega arith))

-- ---- a table's words

pub words-refused : (s : List ℕ) (k : ℕ) (r : Refusal) → file_verdict s ≡ Refuses (number_of r) (place_of r) → Placed s k (Err r)
unfolding words_of_file
words-refused s k r e =
    let N = decoded_net (decode s) in
    record { standing = tt; served = sym (ap (λ (w : Verdict). words_by (onward w (numbered k (length N.tables))) (words_of_net N k)) e) }

module _ {s : List ℕ} {N : Net} (o : ReadAs s N) where
  words_of : (k : ℕ) {w : Verdict} → numbered k (length (N).tables) ≡ w → words_by w (words_of_net (N) k) ≡ words_of_file s k
  unfolding words_of_file
  words_of k e =
      sym (ap₂ (λ (M : Net) (w : Verdict). words_by (onward w (numbered k (length M.tables))) (words_of_net M k)) (the_net o) (passed s o) ∙ ap (λ (w : Verdict). words_by w (words_of_net (N) k)) e)

  pub words_missing : (k : ℕ) {n : ℕ} → n ≡ length (N).tables → n ≤ k → Placed s k (Err (Source 65535))
  words_missing k z h = record { standing = tt; served = words_of k (no_number k _ (omega arith)) }

  pub words_there : Bytes s → (k : ℕ) {n at : ℕ} → n ≡ length (N).tables → k < n → TableAt s at → table_in s at ≡ get_or (N).tables k no_table → Placed s k (Ok at)
  unfolding table_in
  words_there b k {n} {at} z h t e =
      let tag = tag_at s at in
      let c = content s at in
      let came : drop (stored_from tag) c ≡ words_of_net (N) k = sym (ap (λ (x : Table). concat_map bytes (stored x.body)) (sym e) ∙ stored_as_they_came tag c (content-bytes s b at) t.good) in
      record { standing = t; served = ap (words_by Fine) came ∙ words_of k (has_number k _ (omega arith)) }
