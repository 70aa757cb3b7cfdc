-- Laws of what specs/Examples.antt defines. Assumes nothing.
use Rattle.std.specs.Prelude.{◌≡◌, refl, List, [], ◌∷◌, ℕ}
use Rattle.words.specs.declared.Op.TheVariants.{Add}
use Rattle.netlist.specs.Net.{Words, WithFill, Net, rom, spelled}
use Rattle.netlist.specs.NodeField.{node_content}
use Rattle.netlist.specs.TableField.{table_content}
use Rattle.netlist.specs.File.{good, decode, check_answer, encode}
use Rattle.netlist.specs.declared.Element.TheVariants.{Output, Register, Async, Gate}
use Rattle.netlist.specs.declared.Answer.TheVariants.{Accepted, Refused}
use Rattle.netlist.specs.Examples.{reading, checking}

adder : Net
adder = record {
  tables = record { bits = 2; wide = 2; body = Words (3 ∷ 1 ∷ 2 ∷ 2 ∷ []) } ∷ [];
  nodes = record { element = Register 1; width = 2; sources = 2 ∷ 0 ∷ 0 ∷ [] }
      ∷ record { element = Async (rom 0); width = 2; sources = 0 ∷ 0 ∷ 0 ∷ [] }
      ∷ record { element = Gate Add; width = 2; sources = 0 ∷ 1 ∷ 0 ∷ [] }
      ∷ record { element = Output; width = 2; sources = 0 ∷ 0 ∷ 0 ∷ [] } ∷ [];
}

file : List ℕ
file =
    0x01 ∷ 0x00 ∷ 0x01 ∷ 0x01 ∷ 0x02 ∷ 0x00 ∷ 0x0A ∷ 0x02 ∷ 0x02 ∷ 0x00 ∷ 0x03 ∷ 0x00 ∷ 0x01 ∷ 0x00 ∷ 0x02 ∷ 0x00 ∷ 0x02
    ∷ 0x03 ∷ 0x00 ∷ 0x06 ∷ 0x02 ∷ 0x02 ∷ 0x00 ∷ 0x02 ∷ 0x00 ∷ 0x01 ∷ 0x03 ∷ 0x00 ∷ 0x05 ∷ 0x03 ∷ 0x02 ∷ 0x00 ∷ 0x00 ∷ 0x00
    ∷ 0x03 ∷ 0x00 ∷ 0x07 ∷ 0x05 ∷ 0x02 ∷ 0x05 ∷ 0x00 ∷ 0x00 ∷ 0x00 ∷ 0x01 ∷ 0x03 ∷ 0x00 ∷ 0x04 ∷ 0x01 ∷ 0x02 ∷ 0x00 ∷ 0x00
    ∷ 0x04 ∷ 0x00 ∷ 0x00 ∷ []

adder-file : encode adder ≡ file
unfolding adder file encode node_content table_content spelled
adder-file = refl

adder-decoded : decode file ≡ good adder
unfolding adder file reading
adder-decoded = refl

adder_accepted : check_answer file ≡ Accepted 54
unfolding file checking
adder_accepted = refl

empty_file : check_answer [] ≡ Refused 2 0
unfolding checking
empty_file = refl

head_cut_off : check_answer (1 ∷ 0 ∷ []) ≡ Refused 2 0
unfolding checking
head_cut_off = refl

no_end : check_answer (1 ∷ 0 ∷ 1 ∷ 1 ∷ []) ≡ Refused 2 4
unfolding checking
no_end = refl

second_head : check_answer (1 ∷ 0 ∷ 1 ∷ 1 ∷ 1 ∷ 0 ∷ 1 ∷ 1 ∷ 4 ∷ 0 ∷ 0 ∷ []) ≡ Refused 3 4
unfolding checking
second_head = refl

after_the_end : check_answer (1 ∷ 0 ∷ 1 ∷ 1 ∷ 4 ∷ 0 ∷ 0 ∷ 9 ∷ []) ≡ Refused 3 7
unfolding checking
after_the_end = refl

-- ---- T-02: tables with a fill word

-- the adder, its table as 3, 1 and the fill word 2
early : Net
early = record { tables = record { bits = 2; wide = 2; body = WithFill 2 (3 ∷ 1 ∷ []) } ∷ []; nodes = adder.nodes }

early_file : List ℕ
early_file =
    0x01 ∷ 0x00 ∷ 0x01 ∷ 0x01 ∷ 0x05 ∷ 0x00 ∷ 0x08 ∷ 0x02 ∷ 0x02 ∷ 0x00 ∷ 0x02 ∷ 0x00 ∷ 0x03 ∷ 0x00 ∷ 0x01
    ∷ 0x03 ∷ 0x00 ∷ 0x06 ∷ 0x02 ∷ 0x02 ∷ 0x00 ∷ 0x02 ∷ 0x00 ∷ 0x01 ∷ 0x03 ∷ 0x00 ∷ 0x05 ∷ 0x03 ∷ 0x02 ∷ 0x00 ∷ 0x00 ∷ 0x00
    ∷ 0x03 ∷ 0x00 ∷ 0x07 ∷ 0x05 ∷ 0x02 ∷ 0x05 ∷ 0x00 ∷ 0x00 ∷ 0x00 ∷ 0x01 ∷ 0x03 ∷ 0x00 ∷ 0x04 ∷ 0x01 ∷ 0x02 ∷ 0x00 ∷ 0x00
    ∷ 0x04 ∷ 0x00 ∷ 0x00 ∷ []

early_written : encode early ≡ early_file
unfolding early adder early_file encode node_content table_content
early_written = refl

early_decoded : decode early_file ≡ good early
unfolding early adder early_file reading
early_decoded = refl

-- it answers what the adder's table answers
early_spelled : spelled (record { bits = 2; wide = 2; body = WithFill 2 (3 ∷ 1 ∷ []) }) ≡ 3 ∷ 1 ∷ 2 ∷ 2 ∷ []
unfolding spelled
early_spelled = refl

-- too wide, though no address reads it
fill_too_wide : check_answer (1 ∷ 0 ∷ 1 ∷ 1 ∷ 5 ∷ 0 ∷ 8 ∷ 1 ∷ 1 ∷ 0 ∷ 2 ∷ 0 ∷ 0 ∷ 0 ∷ 1 ∷ 4 ∷ 0 ∷ 0 ∷ []) ≡ Refused 4 4
unfolding checking
fill_too_wide = refl

no_word : check_answer (1 ∷ 0 ∷ 1 ∷ 1 ∷ 5 ∷ 0 ∷ 4 ∷ 1 ∷ 1 ∷ 0 ∷ 1 ∷ 4 ∷ 0 ∷ 0 ∷ []) ≡ Refused 4 4
unfolding checking
no_word = refl

three_of_two : check_answer (1 ∷ 0 ∷ 1 ∷ 1 ∷ 5 ∷ 0 ∷ 10 ∷ 1 ∷ 1 ∷ 0 ∷ 0 ∷ 0 ∷ 0 ∷ 0 ∷ 1 ∷ 0 ∷ 1 ∷ 4 ∷ 0 ∷ 0 ∷ []) ≡ Refused 4 4
unfolding checking
three_of_two = refl

-- ---- T-06: a table that no node reads

-- one table, no node
unread-table : check_answer (1 ∷ 0 ∷ 1 ∷ 1 ∷ 2 ∷ 0 ∷ 6 ∷ 1 ∷ 1 ∷ 0 ∷ 1 ∷ 0 ∷ 0 ∷ 4 ∷ 0 ∷ 0 ∷ []) ≡ Refused 17 0
unfolding checking
unread-table = refl

-- two tables and a ROM that reads itself: 17 comes before 9
before_the_loop : check_answer
    (1 ∷ 0 ∷ 1 ∷ 1 ∷ 2 ∷ 0 ∷ 6 ∷ 1 ∷ 1 ∷ 0 ∷ 1 ∷ 0 ∷ 0 ∷ 2 ∷ 0 ∷ 6 ∷ 1 ∷ 1 ∷ 0 ∷ 0 ∷ 0 ∷ 1
    ∷ 3 ∷ 0 ∷ 5 ∷ 3 ∷ 1 ∷ 0 ∷ 0 ∷ 0 ∷ 4 ∷ 0 ∷ 0 ∷ []) ≡ Refused 17 1
unfolding checking
before_the_loop = refl
