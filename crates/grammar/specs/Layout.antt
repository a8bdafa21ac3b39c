-- How tokens are laid out as bytes: a text "leaves out only spaces and line ends between parts" and "cuts no word".
use Rattle.std.specs.Prelude.{◌≡◌, ℕ, Bool, true, false, not, ◌&&◌, List, [], ◌∷◌, ◌++◌, ◌==◌}
use Rattle.lexical.specs.Bytes.{bytes, elem, every}
use Rattle.grammar.specs.Token.{Token, word, mark, scope, colon, linkage, comment, word_char, mark_char, spelling}

-- a space or a line end
abbrev pub blank_char : ℕ → Bool
blank_char c = elem c (bytes " \n")

abbrev pub nonempty : List ℕ → Bool
nonempty [] = false
nonempty (c ∷ s) = true

abbrev pub ends_in : ℕ → List ℕ → Bool
ends_in c [] = false
ends_in c (d ∷ []) = d == c
ends_in c (d ∷ (e ∷ s)) = ends_in c (e ∷ s)

abbrev pub in_line : ℕ → Bool
in_line c = not (c == 10)

-- a comment stays in its line, and its last character does not splice the next one to it (ISO C++ [lex.phases])
abbrev pub well_formed : Token → Bool
well_formed (word s) = nonempty s && every word_char s
well_formed (mark c) = mark_char c
well_formed scope = true
well_formed colon = true
well_formed linkage = true
well_formed (comment s) = every in_line s && not (ends_in 92 s)

abbrev pub no_word_char : List ℕ → Bool
no_word_char [] = true
no_word_char (c ∷ s) = not (word_char c)

abbrev pub no_colon : List ℕ → Bool
no_colon [] = true
no_colon (c ∷ s) = not (c == 58)

abbrev pub line_end : List ℕ → Bool
line_end [] = true
line_end (c ∷ s) = c == 10

-- the token ends where the rest begins: no word and no `::` is cut (ISO C++ [lex.pptoken]), a comment takes its line
abbrev pub ends_before : Token → List ℕ → Bool
ends_before (word s) rest = no_word_char rest
ends_before (mark c) rest = true
ends_before scope rest = true
ends_before colon rest = no_colon rest
ends_before linkage rest = true
ends_before (comment s) rest = line_end rest

pub data Layout : List Token → List ℕ → Type 0 where
  finished : Layout [] []
  blank : {c : ℕ} {ts : List Token} {s : List ℕ} → blank_char c ≡ true → Layout ts s → Layout ts (c ∷ s)
  token : {t : Token} {ts : List Token} {s : List ℕ} → well_formed t ≡ true → ends_before t s ≡ true → Layout ts s →
      Layout (t ∷ ts) (spelling t ++ s)
