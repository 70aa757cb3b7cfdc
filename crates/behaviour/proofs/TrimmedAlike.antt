-- A netlist does without its unread tables what it did with them. Assumes nothing.
use Rattle.std.specs.Prelude.{◌≡◌, refl, Bool, true, List}
use Rattle.std.proofs.Math.Path.{sym, ap, fun_ext}
use Rattle.std.proofs.Common.{ap₂, ◌∙◌}
use Prim.Native.Nat.{ℕ}
use Rattle.lists.specs.Lists.{only, select, count_below}
use Rattle.lists.proofs.ListsLaws.{concat_map-cong}
use Rattle.netlist.specs.declared.Element.{Element}
use Rattle.netlist.specs.declared.Element.TheVariants.{Input, Output, Register, Async, Clocked, Gate}
use Rattle.netlist.specs.Net.{Table, table_of, spelled, Net, size, element_at, width_at, source, gives, contents_in, contents_at, is_input, is_output, is_memory, port_of, Behaves, outputs_of}
use Rattle.netlist.specs.Checks.{table_in, WellFormed}
use Rattle.netlist.specs.Trim.{over_table, trimmed}
use Rattle.netlist.proofs.Trimmed.{Blind, size-trimmed, inside_trimmed, element_trimmed, width_trimmed, source-trimmed, blind_trimmed}
use Rattle.netlist.proofs.TrimmedRules.{blind_input, blind_output, own_kept, well_formed_trimmed}
use Rattle.behaviour.specs.Runs.{input_widths, output_widths}
use Rattle.behaviour.specs.Alike.{Alike}
use Rattle.behaviour.proofs.Alike.{carried_alike}

-- over a table that holds what its own does an element gives the same
gives_over : (ts us : List Table) (k : ℕ) (e : Element) (w : ℕ) (ws : ℕ → ℕ) (i : ℕ → ℕ) (d : ℕ → ℕ → ℕ) (t : ℕ) → (is_memory e ≡ true → table_in us k ≡ table_in ts (table_of e))
    → gives (contents_in us (over_table k e)) (over_table k e) w ws i d t ≡ gives (contents_in ts e) e w ws i d t
unfolding contents_in
gives_over ts us k Input w ws i d t h = refl
gives_over ts us k Output w ws i d t h = refl
gives_over ts us k (Register r) w ws i d t h = refl
gives_over ts us k (Async m) w ws i d t h = ap (λ (a : Table). gives (spelled a) (Async m) w ws i d t) (h refl)
gives_over ts us k (Clocked m r) w ws i d t h = ap (λ (a : Table). gives (spelled a) (Clocked m r) w ws i d t) (h refl)
gives_over ts us k (Gate o) w ws i d t h = refl

module _ (N : Net) (wf : WellFormed N) where
  -- what is chosen by a class that is blind to tables
  chosen-trimmed : {A : Type 0} (X : Element → Bool) → Blind X → (h k : ℕ → A) → ((v : ℕ) → h v ≡ k v)
      → select (λ v. X (element_at (trimmed N) v)) h (size (trimmed N)) ≡ select (λ v. X (element_at N v)) k (size N)
  chosen-trimmed {A} X b h k e =
      concat_map-cong (λ v. only (X (element_at (trimmed N) v)) (h v)) (λ v. only (X (element_at N v)) (k v)) 0 (size (trimmed N)) (λ v l. ap₂ (λ (c : Bool) (a : A). only c a) (blind_trimmed N b v) (e v))
      ∙ ap (select (λ v. X (element_at N v)) k) (size-trimmed N)

  port_trimmed : (v : ℕ) → port_of (trimmed N) v ≡ port_of N v
  unfolding port_of
  port_trimmed v = ap (λ (q : ℕ → Bool). count_below q v) (fun_ext (λ u. blind_trimmed N blind_input u))

  sources-trimmed : (v : ℕ) → source (trimmed N) v ≡ source N v
  sources-trimmed v = fun_ext (source-trimmed N v)

  widths_trimmed : width_at (trimmed N) ≡ width_at N
  widths_trimmed = fun_ext (width_trimmed N)

  behaves_trimmed : (ins B : ℕ → ℕ → ℕ) → Behaves N ins B → Behaves (trimmed N) ins B
  unfolding Behaves contents_at
  behaves_trimmed ins B behaves t v h =
      behaves t v (inside_trimmed N h)
      ∙ sym (rw (sources-trimmed v, widths_trimmed, port_trimmed v, element_trimmed N v)
      (gives_over N.tables (trimmed N).tables _ (element_at N v) (width_at N v) (λ p. width_at N (source N v p)) (λ s. ins s (port_of N v)) (λ p s. B s (source N v p)) t
      (own_kept N wf.has_table v (inside_trimmed N h))))

  -- THE LAW
  pub trimmed_alike : Alike N (trimmed N)
  unfolding outputs_of input_widths output_widths
  trimmed_alike =
      carried_alike N (trimmed N) wf (well_formed_trimmed N wf) (λ ins B behaves. (B, behaves_trimmed ins B behaves, λ t. chosen-trimmed is_output blind_output (B t) (B t) (λ v. refl)))
      (chosen-trimmed is_input blind_input (width_at (trimmed N)) (width_at N) (width_trimmed N))
      (chosen-trimmed is_output blind_output (width_at (trimmed N)) (width_at N) (width_trimmed N))
