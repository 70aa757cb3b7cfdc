-- A list of runs in one call: as many clocks as the caller says, each with its row of the inputs and its row of the outputs. Assumes nothing.
use Rattle.std.specs.Prelude.{◌≡◌, Bool, cond, ◌&&◌, List, ◌++◌, map, ℕ, ◌*◌, length, take, drop, eqb}
use Rattle.lists.specs.Lists.{below, concat_map, all_below}
use Rattle.netlist.specs.Net.{Net}
use Rattle.netlist.specs.Verdict.{onward, Verdict, Fine, Refuses}
use Rattle.netlist.specs.File.{decode, decoded_net, file_verdict, answer, given}
use Rattle.behaviour.specs.Runs.{input_widths, output_widths, state_widths}
use Rattle.behaviour.specs.Service.{fitting_bytes, reset_file, Ran, Entry, Shown, runs_file}
use Rattle.behaviour.specs.Entries.{state_bytes, state_after}

-- two bytes for each width; and the i-th row of so many bytes
abbrev pub row_bytes : List ℕ → ℕ
row_bytes ws = 2 * length ws

abbrev pub byte_row : ℕ → List ℕ → ℕ → List ℕ
byte_row r b i = take r (drop (r * i) b)

-- so many rows; and each word of each of them fits its width
abbrev pub room_for_rows : ℕ → List ℕ → List ℕ → Bool
room_for_rows clocks ws b = eqb (length b) (row_bytes ws * clocks)

abbrev pub fitting_rows : ℕ → List ℕ → List ℕ → Bool
fitting_rows clocks ws b = room_for_rows clocks ws b && all_below clocks (λ i. fitting_bytes ws (byte_row (row_bytes ws) b i))

-- what the i-th run is lent: the i-th row of the inputs, and the i-th row of the outputs
abbrev pub entry_at : Net → List ℕ → List ℕ → ℕ → Entry
entry_at N ins outs i = record { inputs = byte_row (row_bytes (input_widths N)) ins i; outputs = byte_row (row_bytes (output_widths N)) outs i }

unfoldable pub entries : Net → List ℕ → List ℕ → ℕ → List Entry
entries N ins outs clocks = map (entry_at N ins outs) (below clocks)

-- of a netlist that the reader passes. 15: not so many rows of fitting input words, or not so many rows of outputs. 16: the state's length or a word in it doesn't fit
abbrev pub list_verdict : Net → List ℕ → List ℕ → List ℕ → ℕ → Verdict
list_verdict N st ins outs clocks =
    cond (fitting_rows clocks (input_widths N) ins && room_for_rows clocks (output_widths N) outs)
    (cond (fitting_bytes (state_widths N) st) Fine (Refuses 16 65535))
    (Refuses 15 65535)

-- by the verdict: accepted with the outputs' length, the state after the runs, and what they showed, row after row; or refused, and both as they were
abbrev pub list_by : Verdict → List ℕ → List Entry → List ℕ → List ℕ → Ran
list_by v s es st outs = record {
  answer = answer v (length outs);
  state = given v (state_after s st es) st;
  outputs = given v (concat_map (λ (x : Shown). x.outputs) (runs_file s st es)) outs;
}

-- checks 1 to 10, then 15 and 16, each over the whole list
unfoldable pub run_list_file : List ℕ → List ℕ → List ℕ → List ℕ → ℕ → Ran
run_list_file s st ins outs clocks =
    let N = decoded_net (decode s) in
    list_by (onward (file_verdict s) (list_verdict N st ins outs clocks)) s (entries N ins outs clocks) st outs

-- two files answer calls alike: from reset, after any runs, one call on each
abbrev pub CallsAlike : List ℕ → List ℕ → Type 0
CallsAlike s s' =
    (st st' : List ℕ) → length st ≡ state_bytes s → length st' ≡ state_bytes s' → (es : List Entry) (ins outs : List ℕ) (clocks : ℕ)
    → let old = run_list_file s (state_after s (reset_file s st).state es) ins outs clocks in
    let new = run_list_file s' (state_after s' (reset_file s' st').state es) ins outs clocks in
    -- the answer and the bytes are the same
    (old.answer ≡ new.answer)
    × (old.outputs ≡ new.outputs)
    -- and both states are as after some more runs on both, so that whatever comes next is the same again
    × ((more : List Entry)
    × (old.state ≡ state_after s (reset_file s st).state (es ++ more))
    × (new.state ≡ state_after s' (reset_file s' st').state (es ++ more)))
