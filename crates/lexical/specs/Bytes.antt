-- Lists of bytes, quoted texts, and tests on both.
use Rattle.std.specs.Prelude.{List, [], ◌∷◌, ◌++◌, Bool, true, false, ◌&&◌, ◌||◌, ℕ, zero, suc, ◌/◌, ◌%◌, leb, eqb}
use Prim.Native.Char.{code}
use Prim.Native.String as S
use Prim.Native.String.{String}

-- the bytes of a quoted text
abbrev pub bytes : String → List ℕ
bytes S.[] = []
bytes (S.◌∷◌ c s) = code c ∷ bytes s

-- low ≤ c ≤ high
abbrev pub within : ℕ → ℕ → ℕ → Bool
within low high c = leb low c && leb c high

-- c is one of the bytes s
abbrev pub elem : ℕ → List ℕ → Bool
elem c [] = false
elem c (d ∷ s) = eqb c d || elem c s

-- each element passes the test
unfoldable pub every : {A : Type 0} → (A → Bool) → List A → Bool
every test [] = true
every test (x ∷ xs) = test x && every test xs

-- two lists of bytes are equal
unfoldable pub same : List ℕ → List ℕ → Bool
same [] [] = true
same [] (d ∷ t) = false
same (c ∷ s) [] = false
same (c ∷ s) (d ∷ t) = eqb c d && same s t

-- s is one of the words
unfoldable pub member : List ℕ → List (List ℕ) → Bool
member s [] = false
member s (word ∷ words) = same s word || member s words

-- the n characters that stand in a number, 7 bits each
unfoldable pub chars_in : ℕ → ℕ → List ℕ
chars_in zero x = []
chars_in (suc n) x = chars_in n (x / 128) ++ ((x % 128) ∷ [])
