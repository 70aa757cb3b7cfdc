-- A list of runs in one call, by computation: document 01's adder, and the netlist with the not gate, which has an input port. Assumes nothing.
use Rattle.std.specs.Prelude.{◌≡◌, refl, [], ◌∷◌, replicate}
use Rattle.netlist.specs.declared.Answer.TheVariants.{Accepted, Refused}
use Rattle.behaviour.specs.Service.{reset_file}
use Rattle.behaviour.specs.RunList.{run_list_file}
use Rattle.retiming.specs.Computing.{computing}
use Rattle.retiming.specs.Bench.{clock, sized, refused, adder, adder_over, turned}

-- five clocks from reset: 1, 2, 0, 3, 1, and the register holds 2
adder_list : run_list_file adder.file (reset_file adder.file (255 ∷ 255 ∷ [])).state [] (replicate 10 255) 5
    ≡ record { answer = Accepted 10; state = 0 ∷ 2 ∷ []; outputs = 0 ∷ 1 ∷ 0 ∷ 2 ∷ 0 ∷ 0 ∷ 0 ∷ 3 ∷ 0 ∷ 1 ∷ [] }
unfolding computing adder adder_over clock sized
adder_list = refl

-- no clock: nothing moves
adder_none : run_list_file adder.file (0 ∷ 3 ∷ []) [] [] 0 ≡ record { answer = Accepted 0; state = 0 ∷ 3 ∷ []; outputs = [] }
unfolding computing adder adder_over clock sized
adder_none = refl

-- a row of inputs for each clock: 0, 1, 2
turned_list : run_list_file turned.file (reset_file turned.file (255 ∷ 255 ∷ [])).state (0 ∷ 0 ∷ 0 ∷ 1 ∷ 0 ∷ 2 ∷ []) (replicate 6 255) 3
    ≡ record { answer = Accepted 6; state = 0 ∷ 1 ∷ []; outputs = 0 ∷ 2 ∷ 0 ∷ 0 ∷ 0 ∷ 2 ∷ [] }
unfolding computing turned refused
turned_list = refl

-- 4 has three bits: the whole list is refused, and nothing moves
turned-refused : run_list_file turned.file (0 ∷ 2 ∷ []) (0 ∷ 0 ∷ 0 ∷ 1 ∷ 0 ∷ 4 ∷ []) (replicate 6 255) 3
    ≡ record { answer = Refused 15 65535; state = 0 ∷ 2 ∷ []; outputs = replicate 6 255 }
unfolding computing turned refused
turned-refused = refl
