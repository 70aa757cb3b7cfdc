-- The wires laid one after the other: places and numbers agree. Assumes nothing.
use Rattle.std.specs.Prelude.{◌≡◌, refl, Bool, true, length, set}
use Rattle.std.proofs.Common.{sym, subst, ◌∙◌, ⊎_elim, le_refl, arith, length-append, get_or-set_same, get_or-set_other}
use Rattle.std.proofs.Math.Path.{ap, ap₂}
use Rattle.std.proofs.Math.Bool.{cond}
use mathlib.Core.List.{List, [], ◌++◌, append-nil}
use Prim.Native.Nat.{ℕ, zero, suc, ◌+◌, ◌-◌, ◌*◌, ◌/◌, ◌%◌, ◌≤◌, ◌<◌}
use Rattle.std.proofs.Math.ListN.{get_or, get_or-append}
use Rattle.std.proofs.Math.Seq.{get_or-append-add}
use Rattle.std.proofs.Math.Dec.{ltb}
use borrow.Author.Tests.{lt-ltb, le-ltb}
use Rattle.lists.specs.Lists.{has}
use Rattle.lists.proofs.Sections.{section-length, section-read}
use Rattle.lists.proofs.BelowLaws.{lt_or_le, lt-suc_split, length_listed, get_or_listed}
use Rattle.netlist.specs.Net.{Net, size, element_at, source, operands, Sourced}
use Rattle.behaviour.specs.Run.{zero_word}
use Rattle.retiming.specs.Rewrite.{Timing, Place, Entry, Reg, root, count_on, copy_on, copies, stays, regs_on, entry_places, number_of, along}
use Rattle.retiming.specs.Layout.{no_place, Stands}
use Rattle.retiming.proofs.LayoutLaws.{root_stands, stays_if, copy_on_lem, along_reg, along-end}
use Rattle.retiming.proofs.Wires.{root_within}
use Rattle.wires.specs.Traced.{roots_in, passes_in}
use Rattle.wiring.specs.Wiring.{ends_in, count_from, count_from_lem, asked_clock, wire_count, source_of, wire_at}
use Rattle.wiring.specs.WiringLaws.{count_kept}
use Rattle.plan.specs.Areas.{owners_in, words_in, late_in, firsts_in, sources_in}
use Rattle.plan.specs.Entries.{Finds, Stored, entries_before}
use Rattle.plan.specs.Registers.{behind, PutsRegisters, entry_count, entry_at, wire_on, wires_before, Planning, HeadHeld, RegHeld, Laid, AllLaid}
use Rattle.plan.specs.OperandAt.{OperandAt, operand_at, rest_of}
use Rattle.plan.specs.RegistersPut.{source-put, puts_as}
use Rattle.plan.specs.RegistersRow.{row_next, row_longer, reg_number, entry_number, entries_few, reader_stands, wires_all_lem}

-- ---- one wire more

module _ {N : Net} {f : Timing} {owners words late sources : List ℕ} {m total : ℕ} (d : Laid N f owners words late sources m total) (h : m < 3 * entry_count N f) where
  -- its reader
  abbrev i : ℕ
  i = m / 3

  abbrev p : ℕ
  p = m % 3

  abbrev x : ℕ
  x = get_or owners (m / 3) 0

  abbrev w : ℕ
  w = get_or words (m / 3) 0

  pub reader_here : Stands N f (zero_word N) x w
  reader_here = reader_stands N f owners words d.held i (omega arith)

  entry_here : entry_at N f i ≡ Entry x w
  entry_here = d.held i (omega arith)

  -- there is none
  module _ (none : operands (element_at N x) ≤ p) where
    same_wires : wires_before N f (m + 1) ≡ wires_before N f m
    same_wires =
        row_next N f (regs_on N f (zero_word N)) m
        ∙ ap (λ (pl : Place). wires_before N f m ++ wire_on N f (regs_on N f (zero_word N)) pl p) entry_here
        ∙ ap (λ (b : Bool). wires_before N f m ++ cond b (regs_on N f (zero_word N) x w p) []) (le-ltb p (operands (element_at N x)) none)
        ∙ append-nil (wires_before N f m)

    no_head : HeadHeld N f owners words late sources m (entry_at N f (m / 3)) (m % 3)
    no_head = subst (λ (pl : Place). HeadHeld N f owners words late sources m pl p) (sym entry_here) (λ o. absurd (omega arith))

    laid_none : Laid N f owners words late sources (m + 1) total
    laid_none = record {
      held = d.held;
      count = d.count ∙ ap (λ (l : List Place). entry_count N f + length l) (sym same_wires);
      heads = λ j l. ⊎_elim (λ y. d.heads j y) (λ y. subst (λ (q : ℕ). HeadHeld N f owners words late sources q (entry_at N f (q / 3)) (q % 3)) (sym y) no_head) (lt-suc_split (let z : j < suc m = omega arith in z));
      regs = λ j l k. subst (λ (q : List Place). RegHeld N f owners words late sources (entry_count N f + j) (get_or q j no_place)) (sym same_wires) (d.regs j (subst (λ (q : List Place). j < length q) same_wires l) k);
      never = d.never;
      ahead = d.ahead;
    }

  -- or there is one: its number among the old wires is k
  module _ {leads roots passes ends copied firsts : List ℕ} (t : Planning N f leads roots passes ends copied firsts) (operand-here : p < operands (element_at N x)) {k : ℕ} (e : k ≡ 3 * x + p) where
    quotient : k / 3 ≡ x
    quotient = omega arith

    rest : k % 3 ≡ p
    rest = omega arith

    pub wire_within : k < 3 * size N
    wire_within = omega (arith, reader_here.inside)

    a_wire : wire_at N f k ≡ true
    unfolding wire_at
    a_wire =
        ap₂ (λ (a b : ℕ). ltb a (wire_count N f b)) rest quotient ∙ ap (ltb p) (count_kept N f x reader_here.kept ∙ wires_all_lem (element_at N x) reader_here.other) ∙ lt-ltb p (operands (element_at N x)) operand-here

    source_here : source_of N k ≡ source N x p
    source_here = ap₂ (source N) quotient rest

    pub source_inside : source N x p < size N
    unfolding Sourced
    source_inside = t.ready.formed.sourced x p reader_here.inside operand-here

    pub end_is : get_or ends k 0 ≡ root N (source N x p)
    end_is = t.ends_in_lem k wire_within a_wire ∙ ap (root N) source_here

    pub end_inside : root N (source N x p) < size N
    end_inside = root_within N t.ready.formed.sourced (source N x p) source_inside

    copy_is : get_or copied k 0 ≡ copy_on N f (zero_word N) x p
    copy_is = t.copies_in k wire_within a_wire ∙ ap₂ (copy_on N f (zero_word N)) quotient rest

    -- the entry that it comes from
    module _ {c first : ℕ} (ce : c ≡ get_or copied k 0) (fe : first ≡ get_or firsts (get_or ends k 0) 0) where
      pub first_is : first ≡ length (entries_before N f (root N (source N x p)))
      first_is = fe ∙ ap (λ (u : ℕ). get_or firsts u 0) end_is ∙ t.firsts_in_lem (root N (source N x p)) end_inside

      pub first_few : first ≤ entry_count N f
      first_few = omega (arith, first_is, entries_few N f (root N (source N x p)) (omega (arith, end_inside)))

      module _ {r : ℕ} (seek : Finds words c first (entry_count N f) r) where
        root-stays : stays N f (zero_word N) (root N (source N x p)) ≡ true
        root-stays =
            let ok = t.ready.suits.retimes in
            let s : Stands N f (zero_word N) (root N (source N x p)) _ = root_stands N f (zero_word N) ok.sourced ok.rooted ok.serves x w p reader_here operand-here in
            stays_if N f (zero_word N) (root N (source N x p)) s.other s.kept

        from_is : r ≡ number_of N f (zero_word N) (Entry (root N (source N x p)) (copy_on N f (zero_word N) x p))
        from_is =
            let ci : c ≡ copy_on N f (zero_word N) x p = ce ∙ copy_is in
            let has-it : has c (copies N f (zero_word N) (root N (source N x p))) ≡ true = subst (λ (y : ℕ). has y (copies N f (zero_word N) (root N (source N x p))) ≡ true) (sym ci) (copy_on_lem N f (zero_word N) x p reader_here.inside (stays_if N f (zero_word N) x reader_here.other reader_here.kept) operand-here root-stays) in
            entry_number N f owners words d.held (root N (source N x p)) end_inside first_is has-it seek
            ∙ ap (λ (y : ℕ). number_of N f (zero_word N) (Entry (root N (source N x p)) y)) ci

        -- its registers
        module _ {count : ℕ} (ne : count ≡ count_from N f x (source N x p)) where
          count_is : count_on N f (zero_word N) x p ≡ count
          count_is = count_from_lem N f x p ∙ sym ne

          here : List Place
          here = regs_on N f (zero_word N) x w p

          more_wires : wires_before N f (m + 1) ≡ wires_before N f m ++ here
          unfolding here
          more_wires =
              row_next N f (regs_on N f (zero_word N)) m
              ∙ ap (λ (pl : Place). wires_before N f m ++ wire_on N f (regs_on N f (zero_word N)) pl p) entry_here
              ∙ ap (λ (b : Bool). wires_before N f m ++ cond b (regs_on N f (zero_word N) x w p) []) (lt-ltb p (operands (element_at N x)) operand-here)

          here_length : length here ≡ count
          unfolding here regs_on
          here_length = length_listed (λ j. Reg x w p (count_on N f (zero_word N) x p - suc j)) (count_on N f (zero_word N) x p) ∙ count_is

          more-length : length (wires_before N f (m + 1)) ≡ length (wires_before N f m) + count
          more-length = ap length more_wires ∙ length-append (wires_before N f m) here ∙ ap (λ (z : ℕ). length (wires_before N f m) + z) here_length

          reg_at : (j : ℕ) → j < count → get_or (wires_before N f (m + 1)) (length (wires_before N f m) + j) no_place ≡ Reg x w p (count - suc j)
          unfolding here regs_on
          reg_at j l =
              ap (λ (q : List Place). get_or q (length (wires_before N f m) + j) no_place) more_wires
              ∙ get_or-append-add (wires_before N f m) here j no_place
              ∙ get_or_listed (λ j. Reg x w p (count_on N f (zero_word N) x p - suc j)) (count_on N f (zero_word N) x p) j no_place (omega (arith, count_is))
              ∙ ap (λ (n : ℕ). Reg x w p (n - suc j)) count_is

          number_at : (j : ℕ) → j < count → number_of N f (zero_word N) (Reg x w p (count - suc j)) ≡ total + j
          number_at j l =
              ap (number_of N f (zero_word N)) (sym (reg_at j l))
              ∙ reg_number N f (m + 1) (length (wires_before N f m) + j) (omega arith) (omega (arith, more-length))
              ∙ omega (arith, d.count)

          -- what stands j registers from the source reads
          behind_is : (j : ℕ) → j ≤ count → behind r total j ≡ number_of N f (zero_word N) (along N f (zero_word N) x w p (count - j))
          behind_is zero l = from_is ∙ ap (number_of N f (zero_word N)) (sym (along-end N f (zero_word N) x w p (count - 0) (omega (arith, count_is))))
          behind_is (suc j) l =
              sym (number_at j l) ∙ ap (number_of N f (zero_word N)) (sym (along_reg N f (zero_word N) x w p (count - suc j) (omega (arith, count_is))))

          module _ {owners' late' put sources' : List ℕ} {lead-x origin head : ℕ} (le : lead-x ≡ f.lead x) (oe : origin ≡ f.origin) (q : PutsRegisters (source N x p) r lead-x origin count total owners late sources owners' late' put)
              (se : sources' ≡ set put m head) (he : head ≡ behind r total count) (la : length put ≡ 3072) where
            sources_same : (j : ℕ) → (j ≡ m → ⊥) → get_or sources' j 0 ≡ get_or put j 0
            sources_same j l = ap (λ (z : List ℕ). get_or z j 0) se ∙ get_or-set_other put m j head 0 l

            held_still : Stored owners' words (entry_places N f (zero_word N))
            held_still j l = d.held j l ∙ ap (λ (y : ℕ). Entry y (get_or words j 0)) (sym (q.owners_before j (omega (arith, d.count))))

            head_here : HeadHeld N f owners' words late' sources' m (entry_at N f (m / 3)) (m % 3)
            head_here =
                subst (λ (pl : Place). HeadHeld N f owners' words late' sources' m pl p) (sym entry_here)
                (λ o. ap (λ (z : List ℕ). get_or z m 0) se ∙ get_or-set_same put m head 0 (omega (arith, t.few)) ∙ he ∙ behind_is count (le_refl count)
                ∙ ap (λ (j : ℕ). number_of N f (zero_word N) (along N f (zero_word N) x w p j)) (omega arith))

            head_still : (j : ℕ) → j < m → (pl : Place) (o : ℕ) → HeadHeld N f owners words late sources j pl o → HeadHeld N f owners' words late' sources' j pl o
            head_still j l (Entry y c) o g = λ z. sources_same j (λ e. omega arith) ∙ q.sources_before j (omega (arith, d.count)) ∙ g z
            head_still j l (Reg y c o' j') o g = tt

            reg_still : (j : ℕ) → j < length (wires_before N f m) → (pl : Place) → RegHeld N f owners words late sources (entry_count N f + j) pl → RegHeld N f owners' words late' sources' (entry_count N f + j) pl
            reg_still j l (Entry y c) g = absurd g
            reg_still j l (Reg y c o j') (g, g', g'') = (
              q.owners_before (entry_count N f + j) (omega (arith, d.count)) ∙ g,
              q.late_before (entry_count N f + j) (omega (arith, d.count)) ∙ g',
              sources_same (3 * (entry_count N f + j)) (λ e. omega arith) ∙ q.sources_before (3 * (entry_count N f + j)) (omega (arith, d.count)) ∙ g'',
            )

            reg_new : (j : ℕ) → j < count → total + j < 1024 → RegHeld N f owners' words late' sources' (total + j) (Reg x w p (count - suc j))
            reg_new j l b = (
              q.owner j l b,
              q.clock j l b ∙ ap₂ asked_clock oe (omega (arith, le)),
              sources_same (3 * (total + j)) (λ e. omega (arith, d.count)) ∙ q.reads j l b ∙ behind_is j (omega arith)
                  ∙ ap (λ (n : ℕ). number_of N f (zero_word N) (along N f (zero_word N) x w p n)) (omega arith),
            )

            regs_all : (j : ℕ) → j < length (wires_before N f (m + 1)) → entry_count N f + j < 1024 → RegHeld N f owners' words late' sources' (entry_count N f + j) (get_or (wires_before N f (m + 1)) j no_place)
            regs_all j l b = ⊎_elim earlier later (lt_or_le j (length (wires_before N f m)))
              where
                earlier : j < length (wires_before N f m) → RegHeld N f owners' words late' sources' (entry_count N f + j) (get_or (wires_before N f (m + 1)) j no_place)
                earlier y = subst (RegHeld N f owners' words late' sources' (entry_count N f + j)) (sym (ap (λ (z : List Place). get_or z j no_place) more_wires ∙ get_or-append (wires_before N f m) here no_place j y)) (reg_still j y (get_or (wires_before N f m) j no_place) (d.regs j y b))

                later : length (wires_before N f m) ≤ j → RegHeld N f owners' words late' sources' (entry_count N f + j) (get_or (wires_before N f (m + 1)) j no_place)
                later y =
                    let j' : ℕ = j - length (wires_before N f m) in
                    let back : length (wires_before N f m) + j' ≡ j = omega arith in
                    let l' : j' < count = omega (arith, more-length) in
                    let place : total + j' ≡ entry_count N f + j = omega (arith, d.count) in
                    subst (λ (n : ℕ). RegHeld N f owners' words late' sources' n (get_or (wires_before N f (m + 1)) j no_place)) place
                    (subst (RegHeld N f owners' words late' sources' (total + j')) (sym (reg_at j' l') ∙ ap (λ (n : ℕ). get_or (wires_before N f (m + 1)) n no_place) back) (reg_new j' l' (omega arith)))

            pub laid_more : Laid N f owners' words late' sources' (m + 1) (total + count)
            laid_more = record {
              held = held_still;
              count = omega (arith, d.count, more-length);
              heads = λ j l. ⊎_elim (λ y. head_still j y (entry_at N f (j / 3)) (j % 3) (d.heads j y)) (λ y. subst (λ (n : ℕ). HeadHeld N f owners' words late' sources' n (entry_at N f (n / 3)) (n % 3)) (sym y) head_here) (lt-suc_split (let z : j < suc m = omega arith in z));
              regs = regs_all;
              never = λ j l. q.late_before j (omega (arith, d.count)) ∙ d.never j l;
              ahead = λ j l b. q.late-after j l ∙ d.ahead j (omega arith) b;
            }

-- ---- the wires of one entry

-- the same of equal numbers
pub laid_at : {N : Net} {f : Timing} {o w l s : List ℕ} {m n total : ℕ} → m ≡ n → Laid N f o w l s m total → Laid N f o w l s n total
laid_at {N} {f} {o} {w} {l} {s} {total = total} e d = subst (λ (i : ℕ). Laid N f o w l s i total) e d

module _ (N : Net) (f : Timing) {e : ℕ} (h : e < entry_count N f) where
  -- the old node of an entry is the same whatever else is laid
  pub owner_same : {o w l s o' w' l' s' : List ℕ} {m m' total total' : ℕ} → Laid N f o w l s m total → Laid N f o' w' l' s' m' total' → get_or o e 0 ≡ get_or o' e 0
  owner_same d d' = let a = d.held e h in let b = d'.held e h in cc (a, b)

  module _ {owners words late sources : List ℕ} {total : ℕ} where
    -- and it is a node
    pub owner_inside : {x : ℕ} → Laid N f owners words late sources (3 * e) total → x ≡ get_or owners e 0 → x < size N
    owner_inside d q = omega (arith, q, (reader_stands N f owners words d.held e h).inside)

    -- its places after the last operand have no wire
    pub laid-rest : {n : ℕ} → n ≡ operands (element_at N (get_or owners e 0)) → Laid N f owners words late sources (3 * e + n) total → Laid N f owners words late sources (3 * e + 3) total
    laid-rest q d = rest_of N owners e (λ (m : ℕ). Laid N f owners words late sources m total) (λ m l none at. laid_none at (omega arith) none) q d

-- ---- the same in the areas, as the code reads and puts them

laid_as : {N : Net} {f : Timing} {o o' w w' l l' s s' : List ℕ} {m total : ℕ} → o' ≡ o → w' ≡ w → l' ≡ l → s' ≡ s → Laid N f o w l s m total → Laid N f o' w' l' s' m total
laid_as {N} {f} {o} {o'} {w} {w'} {l} {l'} {s} {s'} {m} {total} a b c e d =
    subst (λ (y : List ℕ). Laid N f y w' l' s' m total) (sym a) (subst (λ (y : List ℕ). Laid N f o y l' s' m total) (sym b)
    (subst (λ (y : List ℕ). Laid N f o w y s' m total) (sym c) (subst (λ (y : List ℕ). Laid N f o w l y m total) (sym e) d)))

-- what is known of the wire to operand p of entry e once its reader x is read: its numbers, old and new, are in the areas, and so is where it comes from
pub record WireRead (N : Net) (f : Timing) (wires plan : List ℕ) (e p x : ℕ) : Type 0 where
  pub entry : e < entry_count N f
  pub operand : p < operands (element_at N (get_or (owners_in plan) e 0))
  pub reader : x ≡ get_or plan e 0
  pub inside : x < size N
  pub few : p < 3
  pub old : 3 * x + p < 3072
  pub new : 3 * e + p < 3072
  pub from : source N x p < size N
  pub end : get_or wires (0 + (3 * x + p)) 0 < size N
  pub first : get_or plan (3072 + get_or wires (0 + (3 * x + p)) 0) 0 ≤ entry_count N f

module _ {N : Net} {f : Timing} {timing copied : List ℕ} (wires plan : List ℕ) (t : Planning N f timing (roots_in timing) (passes_in timing) (ends_in wires) copied (firsts_in plan)) {e p total entries : ℕ}
    (d : Laid N f (owners_in plan) (words_in plan) (late_in plan) (sources_in plan) (3 * e + p) total) (ne : entries ≡ entry_count N f) (h : e < entries)
    (o : p < operands (element_at N (get_or (owners_in plan) e 0))) {x : ℕ} (xe : x ≡ get_or plan e 0) where
  -- its number among the new wires
  abbrev m : ℕ
  m = 3 * e + p

  at : OperandAt N f plan e p x
  at = operand_at N f (omega arith) plan t.few o xe

  reader_inside : x < size N
  reader_inside = omega (arith, at.reader, (reader_here d at.within).inside)

  wire_is : 3 * x + p ≡ 3 * get_or (owners_in plan) (m / 3) 0 + m % 3
  wire_is = ap₂ (λ (v q : ℕ). 3 * v + q) at.reader at.operand

  wire_small : 3 * x + p < 3072
  wire_small = omega (arith, wire_within d at.within t at.there wire_is, t.ready.formed.fields.bounds.nodes)

  module _ {end : ℕ} (ee : end ≡ get_or wires (0 + (3 * x + p)) 0) where
    end_read : end ≡ get_or (ends_in wires) (3 * x + p) 0
    end_read = ee ∙ sym (section-read 0 3072 wires (3 * x + p) wire_small)

    -- the root of the wire is a node, so its first entry can be read
    end_within : end < size N
    end_within = omega (arith, end_read, end_is d at.within t at.there wire_is, end_inside d at.within t at.there wire_is)

    first_read : {first : ℕ} → first ≡ get_or plan (3072 + end) 0 → first ≡ get_or (firsts_in plan) (get_or (ends_in wires) (3 * x + p) 0) 0
    first_read fe =
        fe
        ∙ sym (section-read 3072 1024 plan end (omega (arith, end_within, t.ready.formed.fields.bounds.nodes)))
        ∙ ap (λ (i : ℕ). get_or (firsts_in plan) i 0) end_read

  pub wire_read : WireRead N f wires plan e p x
  wire_read = record {
    entry = omega arith;
    operand = o;
    reader = xe;
    inside = reader_inside;
    few = at.few;
    old = wire_small;
    new = omega (arith, at.within, t.few);
    from = omega (arith, at.from, source_inside d at.within t at.there wire_is);
    end = end_within refl;
    first = first_few d at.within t at.there wire_is refl (first_read refl refl);
  }

  pub wire_laid : {end s c first r count lead-x origin head : ℕ} (put last : List ℕ) → end ≡ get_or wires (0 + (3 * x + p)) 0 → s ≡ source N x p → c ≡ get_or copied (3 * x + p) 0 → first ≡ get_or plan (3072 + end) 0
      → Finds (words_in plan) c first entries r → count ≡ count_from N f x s → lead-x ≡ get_or timing x 0 → origin ≡ f.origin
      → PutsRegisters s r lead-x origin count total (owners_in plan) (late_in plan) (sources_in plan) (owners_in put) (late_in put) (sources_in put) × (words_in put ≡ words_in plan) × (firsts_in put ≡ firsts_in plan)
      → length put ≡ 7168 → last ≡ set put (4096 + (3 * e + p)) head → head ≡ behind r total count
      → Laid N f (owners_in last) (words_in last) (late_in last) (sources_in last) (3 * e + p + 1) (total + count) × (firsts_in last ≡ firsts_in plan)
  wire_laid {s = s} {c} {first} {r} {count} {lead-x} {origin} {head} put last ee se ce fe seek ke le oe (q, we, be) long pe he =
      let z = source-put put last m head wire_read.new pe in
      let found : Finds (words_in plan) c first (entry_count N f) r = subst (λ (n : ℕ). Finds (words_in plan) c first n r) ne seek in
      let counted : count ≡ count_from N f (get_or (owners_in plan) (m / 3) 0) (source N (get_or (owners_in plan) (m / 3) 0) (m % 3)) = ke ∙ ap₂ (count_from N f) at.reader (se ∙ at.from) in
      let leads : lead-x ≡ f.lead (get_or (owners_in plan) (m / 3) 0) = le ∙ t.ready.leads_in x reader_inside ∙ ap f.lead at.reader in
      (laid_as z.1 (z.2 ∙ we) z.3 refl (laid_more d at.within t at.there wire_is ce (first_read ee fe) found counted leads oe (puts_as (se ∙ at.from) q) z.0 he (section-length 4096 3072 put (omega arith))), z.4 ∙ be)

-- ---- all wires

pub planning_as : {N : Net} {f : Timing} {leads roots passes ends copied firsts firsts' : List ℕ} → firsts' ≡ firsts → Planning N f leads roots passes ends copied firsts → Planning N f leads roots passes ends copied firsts'
planning_as {N} {f} {leads} {roots} {passes} {ends} {copied} e t = subst (Planning N f leads roots passes ends copied) (sym e) t

module _ (N : Net) (f : Timing) {owners words late sources : List ℕ} {m total : ℕ} (d : Laid N f owners words late sources m total) where
  pub laid_over : m ≤ 3 * entry_count N f → 1024 < total → AllLaid N f owners words late sources total
  laid_over h o = record { exact = λ e. absurd (omega arith); over = λ e. omega (arith, d.count, row_longer N f (regs_on N f (zero_word N)) m (3 * entry_count N f) h) }

  -- where there are too many, nothing is said of the next wires
  pub laid_stop : (k : ℕ) → m ≤ 3 * entry_count N f → 1024 < total → (total ≤ 1024 → Laid N f owners words late sources k total) × (1024 < total → AllLaid N f owners words late sources total)
  laid_stop k h o = (λ g. absurd (omega arith), laid_over h)

  pub laid_all : m ≡ 3 * entry_count N f → AllLaid N f owners words late sources total
  laid_all e = record { exact = λ o. subst (λ (i : ℕ). Laid N f owners words late sources i total) e d; over = λ o. omega (arith, d.count, ap (λ (i : ℕ). length (wires_before N f i)) e) }
