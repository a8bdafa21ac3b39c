-- A name that is walked once, from its first character to its last (document 02, order 2): a state of three bytes, its
-- steps and its verdict, for any table of words.
use Rattle.std.specs.Prelude.{List, [], ◌∷◌, ◌++◌, Bool, true, false, ◌&&◌, ◌||◌, not, ℕ, zero, suc, ◌+◌, ◌*◌, ◌/◌}
use Rattle.std.specs.Prelude.{◌%◌, ◌<◌, ◌≤◌, leb, ltb, eqb, length, get_or, take, drop}
use Rattle.lexical.specs.Bytes.{every}
use Rattle.lexical.specs.Names.{letter, digit, underscore, capital}
use Rattle.format.specs.Decode.{pick}
use Rattle.words.specs.declared.Shape.{Shape}
use Rattle.words.specs.declared.Shape.TheVariants.{Empty, Leading, Plain, Underscore, Reserved, Broken}
use Rattle.words.specs.declared.State.{State}
use Rattle.words.specs.declared.Compared.{Compared}
use Rattle.words.specs.declared.Compared.TheVariants.{Same, Larger, Other}

-- ---- the shape: what the characters up to here are
-- Empty: there are none. Leading: an underscore alone. Plain: a name that ends otherwise than in an underscore.
-- Underscore: a longer name that ends in one. Reserved: a name of a form that [lex.name] reserves. Broken: no name.

-- c behind other characters: a letter or digit leaves `plain`, an underscore `score`
abbrev pub behind : Shape → Shape → ℕ → Shape
behind plain score c = pick (letter c || digit c) plain (pick (underscore c) score Broken)

abbrev pub step_shape : Shape → ℕ → Shape
step_shape Empty c = pick (letter c) Plain (pick (underscore c) Leading Broken)
step_shape Leading c = pick (capital c) Reserved (behind Plain Reserved c)
step_shape Plain c = behind Plain Underscore c
step_shape Underscore c = behind Plain Reserved c
step_shape Reserved c = behind Reserved Reserved c
step_shape Broken c = Broken

unfoldable pub walk_shape : Shape → List ℕ → Shape
walk_shape q [] = q
walk_shape q (c ∷ cs) = walk_shape (step_shape q c) cs

-- a name by the base rule, but for words
abbrev pub well_formed : Shape → Bool
well_formed Empty = false
well_formed Leading = true
well_formed Plain = true
well_formed Underscore = true
well_formed Reserved = true
well_formed Broken = false

-- and of no form that is reserved
abbrev pub free : Shape → Bool
free Empty = false
free Leading = true
free Plain = true
free Underscore = true
free Reserved = false
free Broken = false

-- ---- the word: the first of a table that begins with the characters up to here

-- p is a prefix of w
unfoldable pub begins : List ℕ → List ℕ → Bool
begins [] w = true
begins (c ∷ p) [] = false
begins (c ∷ p) (d ∷ w) = eqb c d && begins p w

-- the number of the first word that begins with p; how many there are, if none does
unfoldable pub first_with : List ℕ → List (List ℕ) → ℕ
first_with p [] = 0
first_with p (w ∷ ws) = pick (begins p w) 0 (suc (first_with p ws))

module _ (words : List (List ℕ)) where
  -- the first word from i on that begins with the first m characters of word i and c
  unfoldable pub step_word : ℕ → ℕ → ℕ → ℕ
  step_word i m c = i + first_with (take m (get_or words i []) ++ (c ∷ [])) (drop i words)

  -- ---- the state

  -- it has one character more, which is counted if some word began with those before it
  unfoldable pub step : State → ℕ → State
  step q c = record {
    word = step_word q.word q.matched c;
    matched = q.matched + pick (ltb q.word (length words)) 1 0;
    shape = step_shape q.shape c;
  }

  unfoldable pub walk : State → List ℕ → State
  walk q [] = q
  walk q (c ∷ cs) = walk (step q c) cs

  -- the state's word is no shorter than what was matched
  abbrev pub Fits : State → Type 0
  Fits q = q.word < length words → q.matched ≤ length (get_or words q.word [])

  -- the characters are a word of edition e, where `added` has 1 for those that edition 1 does not have
  unfoldable pub is_word : List ℕ → ℕ → State → Bool
  is_word added e q =
      ltb q.word (length words) && (eqb q.matched (length (get_or words q.word [])) &&
      (leb 2 e || eqb (get_or added q.word 0) 0))

  unfoldable pub verdict : List ℕ → ℕ → State → Bool
  verdict added e q = free q.shape && not (is_word added e q)

  -- by the base rule
  unfoldable pub base_verdict : List ℕ → State → Bool
  base_verdict added q = well_formed q.shape && not (is_word added 1 q)

abbrev pub start : State
start = record { word = 0; matched = 0; shape = Empty }

-- ---- a state is three bytes

abbrev pub shape_number : Shape → ℕ
shape_number Empty = 0
shape_number Leading = 1
shape_number Plain = 2
shape_number Underscore = 3
shape_number Reserved = 4
shape_number Broken = 5

-- the shape of a number
abbrev pub shape_of : ℕ → Shape
shape_of zero = Empty
shape_of (suc zero) = Leading
shape_of (suc (suc zero)) = Plain
shape_of (suc (suc (suc zero))) = Underscore
shape_of (suc (suc (suc (suc zero)))) = Reserved
shape_of (suc (suc (suc (suc (suc n))))) = Broken

unfoldable pub pack : State → ℕ
pack q = q.word + 256 * q.matched + 65536 * shape_number q.shape

-- the state of a number of three bytes
unfoldable pub unpack : ℕ → State
unpack x = record { word = x % 256; matched = x / 256 % 256; shape = shape_of (x / 65536) }

-- ---- sorted tables

-- a stands before b in lexicographic order
unfoldable pub before : List ℕ → List ℕ → Bool
before a [] = false
before [] (d ∷ b) = true
before (c ∷ a) (d ∷ b) = ltb c d || (eqb c d && before a b)

unfoldable pub sorted : List (List ℕ) → Bool
sorted [] = true
sorted (w ∷ ws) = every (before w) ws && sorted ws

-- w in front of the words where the test holds
abbrev pub with_if : Bool → List ℕ → List (List ℕ) → List (List ℕ)
with_if true w ws = w ∷ ws
with_if false w ws = ws

-- the words of edition e
unfoldable pub chosen : ℕ → List (List ℕ) → List ℕ → List (List ℕ)
chosen e [] added = []
chosen e (w ∷ ws) added = with_if (leb 2 e || eqb (get_or added 0 0) 0) w (chosen e ws (drop 1 added))

-- the length of the longest common prefix
unfoldable pub common : List ℕ → List ℕ → ℕ
common [] b = 0
common (c ∷ a) [] = 0
common (c ∷ a) (d ∷ b) = pick (eqb c d) (suc (common a b)) 0

-- the character of a word behind its first m, plus 1; 0 if there is none
abbrev pub char_behind : List ℕ → ℕ → ℕ
char_behind w m = pick (ltb m (length w)) (get_or w m 0 + 1) 0

-- how it compares with c
abbrev pub compared_of : ℕ → ℕ → Compared
compared_of d c = pick (eqb d (c + 1)) Same (pick (ltb (c + 1) d) Larger Other)
