-- The late start on bytes: document 02, T-05, "a late-start rewriting, chosen by the caller". Assumes nothing.
use Rattle.std.specs.Prelude.{◌≡◌, List, [], ℕ}
use Rattle.netlist.specs.Verdict.{onward, Verdict, Fine}
use Rattle.netlist.specs.File.{Decoded, bad, good, decode, decoded_net, file_verdict, encode}
use Rattle.retiming.specs.FileRewrite.{Rewrote, written_after}
use Rattle.retiming.specs.LateRewrite.{late_started}
use Rattle.retiming.specs.LateDebt.{late_verdict}

-- 1 to 10 of the file, then the late start's 11 to 13 of its netlist
unfoldable pub late_file_verdict : List ℕ → Verdict
late_file_verdict s = onward (file_verdict s) (late_verdict (decoded_net (decode s)))

-- the late start accepts a file when it gets past 1 to 13
abbrev pub IsLateAccepted : List ℕ → Type 0
IsLateAccepted s = late_file_verdict s ≡ Fine

-- the late-started file
abbrev pub late_of : Decoded → List ℕ
late_of (bad k p) = []
late_of (good N) = encode (late_started N)

unfoldable pub late_file : List ℕ → List ℕ
late_file s = late_of (decode s)

-- the answer, and the output that was lent, afterwards; 14 as in the plain mode
unfoldable pub late_rewrite : List ℕ → List ℕ → Rewrote
late_rewrite s out = written_after (late_file_verdict s) (late_file s) out
