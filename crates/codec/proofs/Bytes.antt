-- Laws of what specs/Bytes.antt defines. Assumes nothing.
use Rattle.std.specs.Prelude.{List, [], ◌∷◌, ◌++◌, ℕ, zero, suc, ◌+◌, ◌/◌, ◌%◌, ◌<◌, take, drop}
use Rattle.std.proofs.Common.{arith, get_or-drop, lit<}
use Rattle.lists.specs.Lists.{concat_map}
use Rattle.lists.proofs.ListsLaws.{All}
use Rattle.words.specs.Words.{word, bytes}
use Rattle.codec.specs.Bytes.{Bytes}

-- ---- how lists of bytes are made

pub bytes_none : Bytes []
bytes_none i = lit< tt

pub bytes-more : (x : ℕ) (s : List ℕ) → x < 256 → Bytes s → Bytes (x ∷ s)
bytes-more x s h b = elim [ zero ↦ h | suc i ↦ b i ]

pub bytes-append : (s t : List ℕ) → Bytes s → Bytes t → Bytes (s ++ t)
bytes-append [] t a b = b
bytes-append (x ∷ s) t a b = bytes-more x (s ++ t) (a 0) (bytes-append s t (λ i. a (suc i)) b)

pub bytes-concat : {A : Type 0} (f : A → List ℕ) (P : A → Type 0) → ((x : A) → P x → Bytes (f x)) → (xs : List A) → All P xs → Bytes (concat_map f xs)
bytes-concat f P each [] h = bytes_none
bytes-concat f P each (x ∷ xs) h = bytes-append (f x) (concat_map f xs) (each x h.0) (bytes-concat f P each xs h.1)

-- ---- parts of a list of bytes

pub bytes_take : (n : ℕ) (s : List ℕ) → Bytes s → Bytes (take n s)
bytes_take zero s b = bytes_none
bytes_take (suc n) [] b = bytes_none
bytes_take (suc n) (x ∷ s) b = bytes-more x (take n s) (b 0) (bytes_take n s (λ i. b (suc i)))

pub bytes_drop : (n : ℕ) (s : List ℕ) → Bytes s → Bytes (drop n s)
bytes_drop n s b i = rw get_or-drop (b (n + i))

-- ---- a word is two bytes

pub bytes_word : (v : ℕ) → v < 65536 → Bytes (bytes v)
bytes_word v h = bytes-more (v / 256) (v % 256 ∷ []) (omega arith) (bytes-more (v % 256) [] (omega arith) bytes_none)

pub word_small : (s : List ℕ) → Bytes s → (i : ℕ) → word s i < 65536
word_small s b i = omega (arith, b i, b (i + 1))
