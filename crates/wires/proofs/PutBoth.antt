-- Both words of a node, put into the timing area, with the leads that stay: the two laws of TracedLaws together. Assumes nothing.
use Rattle.std.specs.Prelude.{◌≡◌, List, ℕ, ◌+◌, ◌<◌, length, set, take}
use Rattle.wires.specs.Traced.{roots_in, passes_in}
use Rattle.wires.specs.TracedLaws.{Written, both_put, leads_stay}

pub put_both : (l m k : List ℕ) (v x y : ℕ) → v < 1024 → length l ≡ 3072 → m ≡ set l (1024 + v) x → k ≡ set m (2048 + v) y
    → Written (roots_in l) (passes_in l) (roots_in k) (passes_in k) v x y × (take 1024 k ≡ take 1024 l)
put_both l m k v x y h n a b = (both_put l m k v x y h n a b, leads_stay l m k v x y h n a b)
