-- What a rewriting program reads and writes: the rewritten file, or the line of a refusal. Assumes nothing.
use Rattle.std.specs.Prelude.{◌≡◌, ◌⊎◌, List, ℕ, ◌++◌, ◌≤◌, length, take, replicate, codes, IfSome}
use Rattle.std.specs.Fmt.{decimal}
use Rattle.std.specs.Io.KnownBytes.{Appends, Consumes, Keeps}
use Rattle.std.specs.declared.option.Option.{Option}
use Rattle.codec.specs.Bytes.{Bytes}
use Rattle.netlist.specs.declared.Answer.{Answer}
use Rattle.netlist.specs.Verdict.{Verdict, Fine, Refuses}
use Rattle.retiming.specs.declared.Mode.{Mode}
use Rattle.retiming.specs.Modes.{mode_file_verdict, mode_file, mode_rewrite}
use Rattle.streams.specs.Streams.{AppendsFront}

-- `refused 12 0`, and the end of the line
abbrev pub refusal_line : ℕ → ℕ → List ℕ
refusal_line number place = codes "refused " ++ decimal number ++ codes " " ++ decimal place ++ codes "\n"

-- by 1 to 13: the new file's bytes, or the refusal's line
abbrev pub reply_by : Verdict → List ℕ → List ℕ
reply_by Fine b = b
reply_by (Refuses k p) b = refusal_line k p

abbrev pub reply : Mode → List ℕ → List ℕ
reply mode s = reply_by (mode_file_verdict mode s) (mode_file mode s)

-- A call that answers r. Where the reader's bytes are known, before and after, it takes the first 46,001 of them; where the writer's are known, they grow by the reply.
pub record Replies (mode : Mode) (had left held holds : Option (List ℕ)) (r : Answer) : Type 0 where
  pub bytes : List ℕ
  pub first : IfSome had (λ xs. bytes ≡ take 46001 xs)
  pub lost : Consumes had left bytes
  pub answered : r ≡ (mode_rewrite mode bytes (replicate 46000 0)).answer
  pub written : Appends held holds (reply mode bytes)

-- A call that fails as it reads: the reader has lost some bytes, no more than there is room for, and the writer is as it was.
pub record FailsReading (had left held holds : Option (List ℕ)) : Type 0 where
  pub bytes : List ℕ
  pub few : length bytes ≤ 46001
  pub lost : Consumes had left bytes
  pub kept : Keeps held holds

-- A call that fails as it writes: it has taken what a call that succeeds takes, and the writer has grown by a front of the reply.
pub record FailsWriting (mode : Mode) (had left held holds : Option (List ℕ)) : Type 0 where
  pub bytes : List ℕ
  pub each : Bytes bytes
  pub few : length bytes ≤ 46001
  pub first : IfSome had (λ xs. bytes ≡ take 46001 xs)
  pub lost : Consumes had left bytes
  pub written : AppendsFront held holds (reply mode bytes)

-- what a call that fails leaves, of what is known of the reader's bytes and the writer's
abbrev pub Fails : Mode → Option (List ℕ) → Option (List ℕ) → Option (List ℕ) → Option (List ℕ) → Type 0
Fails mode had left held holds = FailsReading had left held holds ⊎ FailsWriting mode had left held holds
