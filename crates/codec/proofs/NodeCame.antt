-- A well made node content is the content of the node that is read from it, and that node is within the format's limits. Assumes nothing.
use Rattle.words.specs.declared.Op.{Op}
use Rattle.std.specs.Prelude.{◌≡◌, true, length, take, drop, Option, Some, None}
use Rattle.std.proofs.Math.Path.{refl, ap, subst}
use Rattle.std.proofs.Common.{sym, ◌∙◌, add-zero, arith, drop_of_length-le, drop-cons}
use Rattle.std.proofs.lemmas.Bool.{false≢true}
use mathlib.Core.List.{List, [], ◌∷◌, ◌++◌, append_assoc}
use Prim.Native.Nat.{ℕ, zero, suc, ◌+◌, ◌*◌, ◌^◌, ◌≤◌, ◌<◌}
use Rattle.std.proofs.Math.ListN.{get_or}
use Rattle.std.proofs.Math.Dec.{lit<}
use Rattle.lists.specs.Paths.{pick}
use Rattle.lists.proofs.Paths.{arms, arms_lt, arms_eq}
use Rattle.words.specs.Words.{word}
use Rattle.netlist.specs.declared.Element.{Element}
use Rattle.netlist.specs.declared.Element.TheVariants.{Input, Output, Register, Async, Clocked, Gate}
use Rattle.netlist.specs.declared.Node.{Node}
use Rattle.netlist.specs.Net.{rom, operands, table_of}
use Rattle.netlist.specs.Checks.{Fits}
use Rattle.netlist.specs.NodeField.{op_read, gate_read, kind_read, element_read, first_source, sources_from, node_with, node_read, kind_of, before_sources, after_sources, source_bytes, node_content}
use Rattle.netlist.proofs.NodeLaws.{node_facts}
use Rattle.codec.specs.Bytes.{Bytes}
use Rattle.codec.proofs.Bytes.{bytes_drop, word_small}
use Rattle.codec.proofs.WordsLaws.{words_from, words_came, last_word, last_byte, first_two}
use Rattle.codec.proofs.ContentLength.{few_sources, sources_are}
use Rattle.codec.specs.Within.{Recorded, NodeFits}
use Rattle.codec.proofs.OpCame.{OpTold, refused, told, op_came}

-- ---- the element: c is its kind, the width, what stands before the sources, the sources, and what stands after them

pub record Came (c : List ℕ) (e : Element) : Type 0 where
  pub kind : kind_of e ≡ get_or c 0 0
  pub before : before_sources e ++ drop (first_source e) c ≡ drop 2 c
  pub room : first_source e + 2 * operands e ≤ length c
  pub after : after_sources e ≡ drop (first_source e + 2 * operands e) c
  pub fits : Fits e (get_or c 1 0)

pub data Told (c : List ℕ) : Option Element → Type 0 where
  bad : Told c None
  came : {e : Element} → Came c e → Told c (Some e)

module _ (c : List ℕ) (b : Bytes c) where
  gate_came : get_or c 0 0 ≡ 5 → (r : Option Op) → OpTold c r → Told c (gate_read r)
  gate_came k None refused = bad
  gate_came k (Some o) (told t) =
      came
      (record {
        kind = sym k;
        before = ap (λ (n : ℕ). n ∷ drop 3 c) t.number ∙ sym (drop-cons c 2 0 (omega (arith, t.room)));
        room = t.room;
        after = t.after;
        fits = t.fits;
      })

  nothing_left : (i : ℕ) → length c ≡ i → [] ≡ drop i c
  nothing_left i e = sym (drop_of_length-le c {i = i} (omega arith))

  input_came : get_or c 0 0 ≡ 0 → length c ≡ 2 → Came c Input
  input_came k n = record { kind = sym k; before = refl; room = omega arith; after = nothing_left 2 n; fits = tt }

  output_came : get_or c 0 0 ≡ 1 → length c ≡ 4 → Came c Output
  output_came k n = record { kind = sym k; before = refl; room = omega arith; after = nothing_left 4 n; fits = tt }

  register_came : get_or c 0 0 ≡ 2 → length c ≡ 6 → word c 4 < 2 ^ get_or c 1 0 → Came c (Register (word c 4))
  register_came k n f = record { kind = sym k; before = refl; room = omega arith; after = last_word c b 4 n; fits = f }

  async_came : get_or c 0 0 ≡ 3 → length c ≡ 5 → Came c (Async (rom (get_or c 4 0)))
  async_came k n = record { kind = sym k; before = refl; room = omega arith; after = last_byte c 4 n; fits = tt }

  clocked_came : get_or c 0 0 ≡ 4 → length c ≡ 7 → word c 5 < 2 ^ get_or c 1 0 → Came c (Clocked (rom (get_or c 4 0)) (word c 5))
  clocked_came k n f =
      record {
        kind = sym k;
        before = refl;
        room = omega arith;
        after = ap (λ (l : List ℕ). get_or c 4 0 ∷ l) (last_word c b 5 n) ∙ sym (drop-cons c 4 0 (omega arith));
        fits = f;
      }

  kind_came : Told c (kind_read (get_or c 0 0) c)
  unfolding kind_read
  kind_came =
      arms_eq P _ _ k 0 (λ z. arms_eq P _ _ n 2 (λ h. came (input_came z h)) (λ _. bad)) (λ _.
      arms_eq P _ _ k 1 (λ z. arms_eq P _ _ n 4 (λ h. came (output_came z h)) (λ _. bad)) (λ _.
      arms_eq P _ _ k 2 (λ z. arms_eq P _ _ n 6 (λ h. arms_lt P _ _ (word c 4) (2 ^ get_or c 1 0) (λ f. came (register_came z h f)) (λ _. bad)) (λ _. bad)) (λ _.
      arms_eq P _ _ k 3 (λ z. arms_eq P _ _ n 5 (λ h. came (async_came z h)) (λ _. bad)) (λ _.
      arms_eq P _ _ k 4 (λ z. arms_eq P _ _ n 7 (λ h. arms_lt P _ _ (word c 5) (2 ^ get_or c 1 0) (λ f. came (clocked_came z h f)) (λ _. bad)) (λ _. bad)) (λ _.
      arms_eq P _ _ k 5 (λ z. gate_came z (op_read c) (op_came c b)) (λ _. bad))))))
    where
      k : ℕ
      k = get_or c 0 0

      n : ℕ
      n = length c

      P : Option Element → Type 0
      P = Told c

  element_came : Told c (element_read c)
  unfolding element_read
  element_came = arms (Told c) _ _ _ (λ _. bad) (λ _. arms (Told c) _ _ _ (λ _. bad) (λ _. arms (Told c) _ _ _ (λ _. bad) (λ _. kind_came)))

-- ---- the sources

module _ (c : List ℕ) (f : ℕ) where
  sources-read : (n : ℕ) → n ≤ 3 → take n (sources_from c f n) ≡ words_from c f n
  unfolding sources_from pick
  sources-read zero h = refl
  sources-read (suc zero) h = rw (add-zero f)
  sources-read (suc (suc zero)) h = rw (add-zero f)
  sources-read (suc (suc (suc zero))) h = rw (add-zero f)
  sources-read (suc (suc (suc (suc n)))) h = absurd (omega arith)

  sources_came : Bytes c → (n : ℕ) → n ≤ 3 → f + 2 * n ≤ length c → source_bytes n (sources_from c f n) ++ drop (f + 2 * n) c ≡ drop f c
  sources_came b n h room = rw (sources_are, sources-read n h) (words_came c b f n room)

  -- what holds of 0 and of every word holds of every source
  each_source : (P : ℕ → ℕ → Type 0) (n : ℕ) → ((p : ℕ) → P p 0) → ((p i : ℕ) → p < n → P p (word c i)) → (p : ℕ) → P p (get_or (sources_from c f n) p 0)
  unfolding sources_from
  each_source P n none some zero = arms_lt (P 0) _ _ 0 n (some 0 f) (λ _. none 0)
  each_source P n none some (suc zero) = arms_lt (P 1) _ _ 1 n (some 1 (f + 2)) (λ _. none 1)
  each_source P n none some (suc (suc zero)) = arms_lt (P 2) _ _ 2 n (some 2 (f + 4)) (λ _. none 2)
  each_source P n none some (suc (suc (suc p))) = none (suc (suc (suc p)))

-- ---- the node

abbrev node_of : List ℕ → Element → Node
node_of c e = record { element = e; width = get_or c 1 0; sources = sources_from c (first_source e) (operands e) }

table_byte : (e : Element) → Bytes (after_sources e) → table_of e < 256
table_byte Input b = lit< tt
table_byte Output b = lit< tt
table_byte (Register r) b = lit< tt
table_byte (Async m) b = b 0
table_byte (Clocked m r) b = b 0
table_byte (Gate o) b = lit< tt

module _ (c : List ℕ) (b : Bytes c) (e : Element) (t : Came c e) where
  content_came : 2 ≤ length c → node_content (node_of c e) ≡ c
  unfolding node_content
  content_came long =
      let f = first_source e in
      let n = operands e in
      append_assoc (kind_of e ∷ get_or c 1 0 ∷ before_sources e) (source_bytes n (sources_from c f n)) (after_sources e)
      ∙ ap (λ (l : List ℕ). (kind_of e ∷ get_or c 1 0 ∷ before_sources e) ++ l)
      (ap (λ (l : List ℕ). source_bytes n (sources_from c f n) ++ l) t.after ∙ sources_came c f b n (few_sources e) t.room)
      ∙ (λ i. t.kind i ∷ get_or c 1 0 ∷ t.before i)
      ∙ first_two c long

  recorded_came : Recorded (node_of c e)
  unfolding sources_from
  recorded_came =
      let rest : Bytes (after_sources e) = rw t.after (bytes_drop (first_source e + 2 * operands e) c b) in
      record {
        three = refl;
        two_bytes = each_source c (first_source e) (λ p k. k < 65536) (operands e) (λ p. lit< tt) (λ p i h. word_small c b i);
        unread = each_source c (first_source e) (λ p k. operands e ≤ p → k ≡ 0) (operands e) (λ p h. refl) (λ p i h l. absurd (omega arith));
        table = table_byte e rest;
        lowest = λ v q. subst (λ (x : Element). Bytes (after_sources x)) q rest 0;
      }

module _ (c : List ℕ) (b : Bytes c) where
  fits_came : (r : Option Element) → Told c r → (node_with c r).good ≡ true → 1 ≤ get_or c 1 0 → get_or c 1 0 ≤ 16 → NodeFits (node_with c r).node
  fits_came None bad g low high = absurd (false≢true g)
  fits_came (Some e) (came t) g low high = record { width_low = low; width_high = high; word_fits = t.fits; recorded = recorded_came c b e t }

  same_came : (r : Option Element) → Told c r → (node_with c r).good ≡ true → 2 ≤ length c → node_content (node_with c r).node ≡ c
  same_came None bad g long = absurd (false≢true g)
  same_came (Some e) (came t) g long = content_came c b e t long

  -- THE THEOREM
  pub node_as_it_came : (node_read c).good ≡ true → node_content (node_read c).node ≡ c
  unfolding node_read
  node_as_it_came g = same_came (element_read c) (element_came c b) g (node_facts c g).long

  pub node_fits : (node_read c).good ≡ true → NodeFits (node_read c).node
  unfolding node_read
  node_fits g = let facts = node_facts c g in fits_came (element_read c) (element_came c b) g facts.wide_low facts.wide_high
