-- Characters and the name rule (document 01, "The sheet", rule 2; document 02, orders 3 and 13).
use Rattle.std.specs.Prelude.{◌≡◌, List, [], ◌∷◌, ◌++◌, Bool, true, false, ◌&&◌, ◌||◌, not, ℕ, zero, suc, eqb}
use Rattle.lexical.specs.Bytes.{bytes, within, every, member}

abbrev pub letter : ℕ → Bool
letter c = within 97 122 c || within 65 90 c

abbrev pub digit : ℕ → Bool
digit c = within 48 57 c

-- a letter or underscore
abbrev pub name_start : ℕ → Bool
name_start c = letter c || eqb c 95

-- a letter, digit or underscore
abbrev pub name_char : ℕ → Bool
name_char c = name_start c || digit c

abbrev pub starts : (ℕ → Bool) → List ℕ → Bool
starts test [] = false
starts test (c ∷ s) = test c

-- "A name is a letter or underscore, then letters, digits or underscores"
unfoldable pub name_shape : List ℕ → Bool
name_shape s = starts name_start s && every name_char s

-- and no word of the table
unfoldable pub name_ok : List (List ℕ) → List ℕ → Bool
name_ok table s = name_shape s && not (member s table)

-- ISO C++17 [lex.key], table 5: 73 keywords
unfoldable pub keywords : List (List ℕ)
keywords =
    bytes "alignas" ∷ bytes "alignof" ∷ bytes "asm" ∷ bytes "auto" ∷ bytes "bool" ∷ bytes "break" ∷ bytes "case" ∷
    bytes "catch" ∷ bytes "char" ∷ bytes "char16_t" ∷ bytes "char32_t" ∷ bytes "class" ∷ bytes "const" ∷
    bytes "constexpr" ∷ bytes "const_cast" ∷ bytes "continue" ∷ bytes "decltype" ∷ bytes "default" ∷
    bytes "delete" ∷ bytes "do" ∷ bytes "double" ∷ bytes "dynamic_cast" ∷ bytes "else" ∷ bytes "enum" ∷
    bytes "explicit" ∷ bytes "export" ∷ bytes "extern" ∷ bytes "false" ∷ bytes "float" ∷ bytes "for" ∷
    bytes "friend" ∷ bytes "goto" ∷ bytes "if" ∷ bytes "inline" ∷ bytes "int" ∷ bytes "long" ∷ bytes "mutable" ∷
    bytes "namespace" ∷ bytes "new" ∷ bytes "noexcept" ∷ bytes "nullptr" ∷ bytes "operator" ∷ bytes "private" ∷
    bytes "protected" ∷ bytes "public" ∷ bytes "register" ∷ bytes "reinterpret_cast" ∷ bytes "return" ∷
    bytes "short" ∷ bytes "signed" ∷ bytes "sizeof" ∷ bytes "static" ∷ bytes "static_assert" ∷
    bytes "static_cast" ∷ bytes "struct" ∷ bytes "switch" ∷ bytes "template" ∷ bytes "this" ∷
    bytes "thread_local" ∷ bytes "throw" ∷ bytes "true" ∷ bytes "try" ∷ bytes "typedef" ∷ bytes "typeid" ∷
    bytes "typename" ∷ bytes "union" ∷ bytes "unsigned" ∷ bytes "using" ∷ bytes "virtual" ∷ bytes "void" ∷
    bytes "volatile" ∷ bytes "wchar_t" ∷ bytes "while" ∷ []

-- the 8 that ISO C++20 [lex.key] has besides, 81 keywords
unfoldable pub added_keywords : List (List ℕ)
added_keywords =
    bytes "char8_t" ∷ bytes "concept" ∷ bytes "consteval" ∷ bytes "constinit" ∷ bytes "co_await" ∷
    bytes "co_return" ∷ bytes "co_yield" ∷ bytes "requires" ∷ []

unfoldable pub keywords20 : List (List ℕ)
keywords20 = keywords ++ added_keywords

-- ISO C++17 [lex.digraph], table 1: the 11 alternative tokens that are words; ISO C++20 has the same
unfoldable pub alternative_tokens : List (List ℕ)
alternative_tokens =
    bytes "and" ∷ bytes "and_eq" ∷ bytes "bitand" ∷ bytes "bitor" ∷ bytes "compl" ∷ bytes "not" ∷ bytes "not_eq" ∷
    bytes "or" ∷ bytes "or_eq" ∷ bytes "xor" ∷ bytes "xor_eq" ∷ []

-- the words of edition 1
unfoldable pub reserved : List (List ℕ)
reserved = alternative_tokens ++ keywords

-- the keywords of an edition: C++17 before edition 2, C++20 from it on; only 1 and 2 get past `edition` of format
abbrev pub keywords_of : ℕ → List (List ℕ)
keywords_of zero = keywords
keywords_of (suc zero) = keywords
keywords_of (suc (suc e)) = keywords20

unfoldable pub table_of : ℕ → List (List ℕ)
table_of e = alternative_tokens ++ keywords_of e

-- a table that holds all words of edition 1
abbrev pub Covers : List (List ℕ) → Type 0
Covers table = (w : List ℕ) → member w reserved ≡ true → member w table ≡ true

-- the base rule: the table of edition 1, reserved identifiers let through. The grammar has names by this one.
abbrev pub is_name : List ℕ → Bool
is_name s = name_ok reserved s

-- ---- identifiers that ISO C++ [lex.name] reserves: "each identifier that contains a double underscore __ or begins
-- with an underscore followed by an uppercase letter"

abbrev pub underscore : ℕ → Bool
underscore c = eqb c 95

abbrev pub capital : ℕ → Bool
capital c = within 65 90 c

unfoldable pub double_underscore : List ℕ → Bool
double_underscore [] = false
double_underscore (c ∷ s) = (underscore c && starts underscore s) || double_underscore s

unfoldable pub underscore_capital : List ℕ → Bool
underscore_capital [] = false
underscore_capital (c ∷ s) = underscore c && starts capital s

unfoldable pub reserved_shape : List ℕ → Bool
reserved_shape s = double_underscore s || underscore_capital s

-- the name rule of a sheet with this table of words (document 02, orders 3 and 13)
unfoldable pub sheet_name : List (List ℕ) → List ℕ → Bool
sheet_name table s = name_ok table s && not (reserved_shape s)
