-- The preview of a file whose rewritten netlist is laid as a circuit. Assumes nothing.
use Rattle.std.proofs.Math.Path.{◌≡◌, sym, ap, ap₂}
use Rattle.std.proofs.Common.{◌∙◌, arith}
use Rattle.std.specs.Prelude.{List, ◌++◌, ℕ, ◌+◌, ◌*◌, ◌≤◌, ◌<◌, eqb, Result, Ok, Err}
use Rattle.std.proofs.Math.ListN.{length, drop}
use Rattle.netlist.specs.Net.{Net, size, is_register, count_of}
use Rattle.netlist.specs.Verdict.{onward, Verdict, Fine, Refuses}
use Rattle.netlist.specs.declared.Refusal.{Refusal}
use Rattle.netlist.specs.Refusal.{number_of, place_of}
use Rattle.netlist.specs.File.{decode, decoded_net, encode}
use Rattle.codec.specs.Bytes.{Bytes}
use Rattle.behaviour.proofs.WordBytes.{length-bytes}
use Rattle.circuit.specs.Code.{code_of}
use Rattle.circuit.proofs.CircuitLaws.{registers_counted, clocked_counted}
use Rattle.retiming.specs.declared.Size.{Size}
use Rattle.retiming.specs.declared.Preview.{Preview}
use Rattle.retiming.specs.declared.Preview.TheVariants.{Fits, Refused}
use Rattle.retiming.specs.FileRewrite.{out_verdict}
use Rattle.retiming.proofs.OutLaws.{out_short, out_long}
use Rattle.retiming.specs.Rewrite.{rewritten}
use Rattle.retiming.specs.BySource.{by_source}
use Rattle.retiming.proofs.BySourceLaws.{sources_others}
use Rattle.retiming.specs.RegistersLast.{RegistersLast}
use Rattle.retiming.proofs.RewrittenFile.{past_13}
use Rattle.retiming.proofs.NewRegisters.{new_last}
use Rattle.retiming.specs.Preview.{measured, size_of, Previewed, previewed_by, source_bytes, previewed, preview_file}
use Rattle.retiming.specs.declared.Mode.TheVariants.{Plain}
use Rattle.retiming.specs.Modes.{mode_net, mode_file_verdict}
use Rattle.retime.specs.Laying.{mode_lead}

-- the size of a netlist, as it is counted
pub record Measures (M : Net) (m : ℕ) (z : Size) : Type 0 where
  pub clocked : z.clocked ≡ count_of (λ e. eqb (code_of e) 4) M
  pub registers : z.registers ≡ count_of (λ e. eqb (code_of e) 2) M
  pub long : z.length ≡ length (encode M)
  pub lead : z.lead ≡ m
  pub sources : z.sources + z.registers ≡ size M

-- what the preview answers
abbrev pub told : Result Size Refusal → Preview
told (Ok z) = Fits z
told (Err r) = Refused (number_of r) (place_of r)

module _ (M : Net) (m : ℕ) (z : Size) (t : Measures M m z) where
  registers_are : z.registers ≡ count_of is_register M
  registers_are = t.registers ∙ registers_counted M

  pub sources_are : z.sources ≡ length (by_source M)
  sources_are = omega (arith, t.sources, registers_are, sources_others M)

  pub measured_by : z ≡ measured M m
  unfolding measured
  measured_by = let c = t.clocked ∙ clocked_counted M in λ i. record { clocked = c i; registers = registers_are i; length = t.long i; lead = t.lead i; sources = sources_are i }

-- ---- answer and list, as they are stated

pub previewed_as : {x y : Previewed} → x ≡ y → (x.preview ≡ y.preview) × (x.list ≡ y.list)
previewed_as e = (ap (λ (z : Previewed). z.preview) e, ap (λ (z : Previewed). z.list) e)

module _ (M : Net) (m : ℕ) (z : Size) (t : Measures M m z) (l : List ℕ) where
  two_each : length (source_bytes M) ≡ 2 * z.sources
  unfolding source_bytes
  two_each = omega (arith, length-bytes (by_source M), sources_are M m z t)

  -- by what 14 says
  abbrev said : Verdict → Previewed
  said v = previewed_by v (measured M m) (source_bytes M) l

  pub too_short : length l < 2 * z.sources → record { preview = Refused 14 65535; list = l } ≡ previewed M m l
  unfolding previewed
  too_short h = sym (ap said (out_short (source_bytes M) l (omega (arith, two_each))))

  pub long_enough : {after : List ℕ} → 2 * z.sources ≤ length l → after ≡ source_bytes M ++ drop (2 * z.sources) l → record { preview = Fits z; list = after } ≡ previewed M m l
  unfolding previewed
  long_enough {after} h a =
      let b = a ∙ ap (λ (n : ℕ). source_bytes M ++ drop n l) (sym two_each) in
      let q : ◌≡◌ {A = Previewed} (record { preview = Fits z; list = after }) (record { preview = Fits (measured M m); list = source_bytes M ++ drop (length (source_bytes M)) l }) = λ i. record { preview = Fits (measured_by M m z t i); list = b i } in
      q ∙ sym (ap said (out_long (source_bytes M) l (omega (arith, two_each))))

-- ---- by what is laid

-- the preview by what 1 to 13 say
abbrev after : List ℕ → List ℕ → Verdict → Previewed
after s l v = let M = rewritten (decoded_net (decode s)) in previewed_by (onward v (out_verdict (source_bytes M) l)) (size_of (decoded_net (decode s))) (source_bytes M) l

module _ (s l : List ℕ) where
  pub laid_none : {k p : ℕ} → Refuses k p ≡ mode_file_verdict Plain s → record { preview = Refused k p; list = l } ≡ preview_file s l
  unfolding preview_file
  laid_none e = ap (after s l) e

module _ (s : List ℕ) {M : Net} (fine : Fine ≡ mode_file_verdict Plain s) (laid : M ≡ mode_net Plain (decoded_net (decode s))) where
  -- the rewritten netlist's registers stand last
  pub laid_last : Bytes s → RegistersLast M (length (by_source M))
  laid_last b =
      let p = past_13 Plain s (sym fine) in
      rw laid (rw p.file.reads (new_last s b p))

  pub laid-fits : {m : ℕ} → m ≡ mode_lead Plain (decoded_net (decode s)) → (l : List ℕ) → previewed M m l ≡ preview_file s l
  unfolding preview_file size_of previewed
  laid-fits lead l = ap₂ (λ (L : Net) (k : ℕ). previewed L k l) laid lead ∙ ap (after s l) fine
