-- Netlists whose tables answer alike run alike, whatever the state: table by table with a fill word, by rules or spelled out (T-02, T-10). Assumes nothing.
use Rattle.std.specs.Prelude.{◌≡◌, refl, List, ℕ}
use Rattle.std.proofs.Common.{ap, subst, sym, ◌∙◌}
use Rattle.std.proofs.Math.Path.{fun_ext}
use Rattle.netlist.specs.Net.{Table, Net, node_at, element_at, width_at, source, contents_in, contents_at, table_of}
use Rattle.netlist.specs.File.{good, decode, judged, file_verdict}
use Rattle.netlist.specs.Respelled.{TablesAlike, Respelled, over}
use Rattle.netlist.proofs.Respelled.{respelled_is, respelled_verdict}
use Rattle.behaviour.specs.Service.{reset_file, Entry, runs_file}
use Rattle.behaviour.proofs.Same.{Same, reset_file_same, runs-file_same}

over_same : (N : Net) (us : List Table) → TablesAlike N.tables us → Same N (over us N)
unfolding contents_at contents_in element_at width_at source node_at
over_same N us a = record { sizes = refl; elements = refl; widths = refl; sources = refl; contents = fun_ext (λ v. (a.each (table_of (element_at N v))).words) }

pub respelled_same : {N M : Net} → Respelled N M → Same N M
respelled_same {N} {M} r = subst (Same N) (respelled_is r) (over_same N M.tables r.tables)

-- THE LAW: the reader, the reset service and every list of runs answer alike, byte for byte, refusals and places included
pub respelled_files : (f g : List ℕ) (N M : Net) → decode f ≡ good N → decode g ≡ good M → Respelled N M
    → (file_verdict f ≡ file_verdict g)
    × ((st : List ℕ) → reset_file f st ≡ reset_file g st)
    × ((es : List Entry) (st : List ℕ) → runs_file f st es ≡ runs_file g st es)
unfolding file_verdict
respelled_files f g N M reads reads' r =
    let s = respelled_same r in
    let v = ap judged reads ∙ respelled_verdict r ∙ sym (ap judged reads') in
    (v, reset_file_same N M s f g reads reads' v, runs-file_same N M s f g reads reads' v)
