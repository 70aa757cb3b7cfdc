-- The numbers that an answer and a preview are to a C host. Assumes nothing.
use Rattle.std.specs.Prelude.{ℕ, ◌+◌, ◌*◌}
use Rattle.netlist.specs.declared.Answer.{Answer}
use Rattle.netlist.specs.declared.Answer.TheVariants.{Accepted, Refused}
use Rattle.retiming.specs.declared.Preview.{Preview}
use Rattle.retiming.specs.declared.Preview.TheVariants as preview
use Rattle.punqelis.specs.declared.PunqelisSize.{PunqelisSize}

-- the length where accepted, number × 65,536 + place where refused
abbrev pub as_number : Answer → ℕ
as_number (Accepted n) = n
as_number (Refused k p) = k * 65536 + p

-- of a call whose length the caller knows: 0 where accepted
abbrev pub as_code : Answer → ℕ
as_code (Accepted n) = 0
as_code (Refused k p) = as_number (Refused k p)

-- a preview's answer: what rewriting into an output that is long enough answers, or 14
abbrev pub answer_of : Preview → Answer
answer_of (preview.Fits z) = Accepted z.length
answer_of (preview.Refused k p) = Refused k p

-- beside a refusal the other numbers are 0
abbrev pub as_numbers : Preview → PunqelisSize
as_numbers (preview.Fits z) = record { answer = as_number (Accepted z.length); clocked_roms = z.clocked; registers = z.registers; largest_lead = z.lead; sources = z.sources }
as_numbers (preview.Refused k p) = record { answer = as_number (Refused k p); clocked_roms = 0; registers = 0; largest_lead = 0; sources = 0 }
