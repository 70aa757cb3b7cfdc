-- Places linked by two lists of numbers: the first place of each chain, and behind each place the next one of its chain. Assumes nothing.
use Rattle.std.specs.Prelude.{List, ℕ, ◌+◌, ◌≤◌, ◌<◌, length, get_or}

-- `In j b` says that place j is in chain b; there are n places
module _ (In : ℕ → ℕ → Type 0) (n : ℕ) where
  -- r is the first place from k on that is in chain b, or there is none
  pub record From (b k r : ℕ) : Type 0 where
    pub none : (j : ℕ) → k ≤ j → j < r → j < n → In j b → ⊥
    pub here : r < n → (k ≤ r) × In r b

  -- the places from k on are linked
  pub record LinkedFrom (heads links : List ℕ) (k : ℕ) : Type 0 where
    pub first : (b : ℕ) → b < length heads → From b k (get_or heads b 0)
    pub next : (j b : ℕ) → k ≤ j → j < n → b < length heads → In j b → From b (j + 1) (get_or links j 0)
