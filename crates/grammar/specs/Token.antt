-- The tokens that document 01's grammar is made of (ISO C++ [lex.pptoken]).
use Rattle.std.specs.Prelude.{ℕ, Bool, true, false, cond, ◌||◌, List, [], ◌∷◌, ◌++◌, ◌==◌}
use Prim.Native.String.{String}
use Rattle.lexical.specs.Bytes.{bytes, elem}
use Rattle.lexical.specs.Names.{name_char}

-- "a run of letters, digits and underscores", where "`$` counts as a letter"
abbrev pub word_char : ℕ → Bool
word_char c = name_char c || c == 36

abbrev pub mark_char : ℕ → Bool
mark_char c = elem c (bytes "(){}<>,;&*=.")

pub data Token : Type 0 where
  word : List ℕ → Token  -- a run of word characters
  mark : ℕ → Token  -- one character; "`&&` is two `&`"
  scope : Token  -- ::
  colon : Token  -- :
  linkage : Token  -- "C"
  comment : List ℕ → Token  -- "two slashes and the rest of its line"

abbrev pub spelling : Token → List ℕ
spelling (word s) = s
spelling (mark c) = c ∷ []
spelling scope = bytes "::"
spelling colon = bytes ":"
spelling linkage = bytes "\"C\""
spelling (comment s) = bytes "//" ++ s

-- the token with this spelling, other than a comment
abbrev pub token_of : List ℕ → Token
token_of [] = word []
token_of (c ∷ []) = cond (word_char c) (word (c ∷ [])) (cond (c == 58) colon (mark c))
token_of (c ∷ (d ∷ s)) = cond (word_char c) (word (c ∷ d ∷ s)) (cond (c == 58) scope linkage)

-- one more character in front: a space begins a new piece
abbrev pub add_to : Bool → ℕ → List (List ℕ) → List (List ℕ)
add_to true c pieces = [] ∷ pieces
add_to false c [] = (c ∷ []) ∷ []
add_to false c (s ∷ pieces) = (c ∷ s) ∷ pieces

-- a text cut at its spaces
abbrev pub cut : List ℕ → List (List ℕ)
cut [] = []
cut (c ∷ s) = add_to (c == 32) c (cut s)

abbrev pub tokens_of : List (List ℕ) → List Token → List Token
tokens_of [] rest = rest
tokens_of (s ∷ pieces) rest = token_of s ∷ tokens_of pieces rest

-- tokens quoted with a space between each two, in front of others
abbrev pub quoted : String → List Token → List Token
quoted s rest = tokens_of (cut (bytes s)) rest
