-- THE PREVIEW AGREES WITH REWRITING, whole (document 02, T-01). Take any file and any lent list. Where the preview gives a size, the rewriter takes the file into every output
-- that is long enough, with just this length, the file that it writes has just these numbers of clocked ROMs and registers, and the largest lead is the largest excess of a
-- walk. Where the preview is refused by 1 to 13, so is the rewriting, into any output, with the same number and place; and 14 says that the file is accepted and the list is
-- too short (T-03). This rules out a preview that counts a clocked ROM's own register, one that is off by a field, one that says yes where the bench would say no, and one
-- that says 14 to everything. Assumes nothing.
use Rattle.std.specs.Prelude.{◌≡◌, ◌⊎◌, not, List, ℕ, ◌*◌, ◌≤◌, ◌<◌, length, take, eqb}
use Rattle.netlist.specs.Net.{count_of}
use Rattle.netlist.specs.NodeField.{kind_of}
use Rattle.netlist.specs.File.{Decoded, bad, good, decode}
use Rattle.netlist.specs.declared.Answer.TheVariants.{Accepted}
use Rattle.netlist.specs.declared.Answer.TheVariants as answer
use Rattle.retiming.specs.declared.Size.{Size}
use Rattle.retiming.specs.declared.Preview.{Preview}
use Rattle.retiming.specs.declared.Preview.TheVariants.{Fits, Refused}
use Rattle.retiming.specs.FileRewrite.{IsAccepted, rewritten_file, rewrite_file}
use Rattle.retiming.specs.LargestLead.{LargestOfAll}

-- the netlist that was read has so many nodes of kind 4 and so many of kind 2
abbrev pub Counted : Size → Decoded → Type 0
Counted z (bad k p) = ⊥
Counted z (good M) = (count_of (λ e. eqb (kind_of e) 4) M ≡ z.clocked) × (count_of (λ e. eqb (kind_of e) 2) M ≡ z.registers)

-- and this is the largest excess of a walk in it
abbrev pub LeadIs : Size → Decoded → Type 0
LeadIs z (bad k p) = ⊥
LeadIs z (good N) = LargestOfAll N z.lead

-- it has more nodes that are no registers than the list has room for
abbrev pub TooShort : List ℕ → Decoded → Type 0
TooShort l (bad k p) = ⊥
TooShort l (good M) = length l < 2 * count_of (λ e. not (eqb (kind_of e) 2)) M

abbrev pub Agrees : List ℕ → List ℕ → Preview → Type 0
Agrees s l (Fits z) =
    ((out : List ℕ) → z.length ≤ length out → ((rewrite_file s out).answer ≡ Accepted z.length) × Counted z (decode (take z.length (rewrite_file s out).out)))
    × LeadIs z (decode s)
Agrees s l (Refused k p) =
    ((k ≡ 14 → ⊥) × ((out : List ℕ) → rewrite_file s out ≡ record { answer = answer.Refused k p; out = out }))
    ⊎ ((k ≡ 14) × (p ≡ 65535) × IsAccepted s × TooShort l (decode (rewritten_file s)))
