-- The table of words as the code holds it: their lengths and their bytes in a row, and what saves searching.
use Rattle.std.specs.Prelude.{◌≡◌, List, [], ◌∷◌, Bool, true, ℕ, zero, suc, ◌+◌, leb, length, take, drop}
use Rattle.lexical.specs.Bytes.{within, every, member}
use Rattle.lexical.specs.Names.{starts, table_of}
use Rattle.words.specs.Walking.{first_with, sorted, chosen, common}

-- the words of a table
unfoldable pub words_of : List ℕ → List ℕ → List (List ℕ)
words_of [] b = []
words_of (n ∷ ns) b = take n b ∷ words_of ns (drop n b)

-- the bytes that they take
unfoldable pub total : List ℕ → ℕ
total [] = 0
total (n ∷ ns) = n + total ns

-- where each begins, the first at `at`
unfoldable pub starts_of : ℕ → List ℕ → List ℕ
starts_of at [] = []
starts_of at (n ∷ ns) = at ∷ starts_of (at + n) ns

-- what each has in common with the one before it, w for the first
unfoldable pub shared_of : List ℕ → List (List ℕ) → List ℕ
shared_of w [] = []
shared_of w (v ∷ vs) = common w v ∷ shared_of v vs

-- the first word for each of n characters, from c on
unfoldable pub firsts_of : List (List ℕ) → ℕ → ℕ → List ℕ
firsts_of words zero c = []
firsts_of words (suc n) c = first_with (c ∷ []) words ∷ firsts_of words n (c + 1)

-- the parts of the table t
abbrev part : ℕ → List ℕ → List ℕ
part at t = take 92 (drop at t)

abbrev pub lengths_in : List ℕ → List ℕ
lengths_in t = take 92 t

abbrev pub shared_in : List ℕ → List ℕ
shared_in t = part 92 t

-- 1 for a word that edition 1 does not have
abbrev pub added_in : List ℕ → List ℕ
added_in t = part 184 t

abbrev pub first_in : List ℕ → List ℕ
first_in t = take 26 (drop 276 t)

abbrev pub starts_in : List ℕ → List ℕ
starts_in t = part 302 t

abbrev pub words_in : List ℕ → List (List ℕ)
words_in t = words_of (lengths_in t) (drop 394 t)

abbrev pub small : ℕ → Bool
small c = within 97 122 c

-- the table is right: its words are sorted and those of each edition, and what saves searching agrees with them
pub record Right (t : List ℕ) : Type 0 where
  pub size : length t ≡ 971
  pub room : total (lengths_in t) ≡ 577
  pub short : every (λ n. leb n 16) (lengths_in t) ≡ true
  pub sorted : sorted (words_in t) ≡ true
  pub letters : every (starts small) (words_in t) ≡ true
  pub starts : starts_in t ≡ starts_of 0 (lengths_in t)
  pub shared : shared_in t ≡ shared_of [] (words_in t)
  pub first : first_in t ≡ firsts_of (words_in t) 26 97
  pub edition : (e : ℕ) (w : List ℕ) → member w (chosen e (words_in t) (added_in t)) ≡ member w (table_of e)
