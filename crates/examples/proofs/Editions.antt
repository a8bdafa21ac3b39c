-- Editions (document 02, order 13): sheets with one name that nothing uses, in editions 1 and 2, and all editions of a sheet
-- without names.
use Rattle.std.proofs.Common.{◌≡◌, ℕ, zero, suc, ◌+◌, ◌*◌, ◌/◌, ◌%◌, ◌^◌, Bool, true, false, ◌&&◌, eqb, List, [], ◌∷◌, ◌++◌, map, length, take, drop, refl}
use Rattle.lexical.specs.Bytes.{bytes, every, same}
use Rattle.lexical.specs.Names.{added_keywords, reserved, table_of}
use Rattle.rules.specs.Rules.{gather, twice}
use Rattle.rules.specs.Judge.{judge}
use Rattle.examples.proofs.Computing.{computes}
use Rattle.examples.proofs.ByHand.{number}
use Rattle.examples.proofs.Sheets.{text_of}

-- ---- a sheet's bytes

-- the bits of a field
abbrev field : ℕ → ℕ → List ℕ
field zero v = []
field (suc n) v = v / 2 ^ n % 2 ∷ field n v

-- the value of the first n of these, with zeros behind the last
abbrev value_of : ℕ → List ℕ → ℕ
value_of zero bs = 0
value_of (suc n) [] = 0
value_of (suc n) (b ∷ bs) = b * 2 ^ n + value_of n bs

-- so many bytes
abbrev packed : ℕ → List ℕ → List ℕ
packed zero bs = []
packed (suc n) bs = value_of 8 bs ∷ packed n (drop 8 bs)

abbrev one_name : ℕ → List ℕ → List ℕ
one_name edition name =
    packed ((30 + 7 * length name + 7) / 8)
    (field 4 edition ++ field 2 0 ++ field 10 1 ++ field 6 (length name) ++ gather (field 7) name ++ field 8 0)

-- the sheet of Reserved.antt
pub packed_name :
    one_name 1 (bytes "_Tool") ≡ 0x10 ∷ 0x01 ∷ 0x16 ∷ 0xfd ∷ 0x4d ∷ 0xfb ∷ 0xf6 ∷ 0x00 ∷ 0x00 ∷ []
unfolding computes
packed_name = refl

-- a check's answer to it in editions 1 and 2
abbrev answers : ℕ → ℕ → List ℕ → Bool
answers one two name = eqb (number (one_name 1 name)) one && eqb (number (one_name 2 name)) two

-- ---- the words

-- those that C++20 added are names in edition 1 only
pub added_words : every (answers 0 3) added_keywords ≡ true
unfolding computes
added_words = refl

-- those of C++17 in neither
pub older_words : every (answers 3 3) reserved ≡ true
unfolding computes
older_words = refl

-- `import` and `module` are in no table; words that begin or end like the new ones
pub free_words :
    every (answers 0 0)
    (bytes "import" ∷ bytes "module" ∷ bytes "final" ∷ bytes "override" ∷ bytes "char8" ∷ bytes "char8_t_" ∷
    bytes "concep" ∷ bytes "concepts" ∷ bytes "Requires" ∷ bytes "co_await1" ∷ bytes "coyield" ∷ []) ≡ true
unfolding computes
free_words = refl

-- what C++ reserves for any use is a name in neither (order 3)
pub reserved_shapes : every (answers 3 3) (bytes "_Tool" ∷ bytes "a__b" ∷ bytes "co__await" ∷ bytes "_Concept" ∷ []) ≡ true
unfolding computes
reserved_shapes = refl

-- the words of edition 2 are distinct, so that the counts are of words
pub distinct_words : twice same (table_of 2) ≡ false
unfolding computes
distinct_words = refl

-- ---- editions 0 to 15

abbrev editions : List ℕ → List ℕ
editions rest = map (λ e. number (16 * e ∷ rest)) (0 ∷ 1 ∷ 2 ∷ 3 ∷ 4 ∷ 5 ∷ 6 ∷ 7 ∷ 8 ∷ 9 ∷ 10 ∷ 11 ∷ 12 ∷ 13 ∷ 14 ∷ 15 ∷ [])

-- whole, cut behind the edition, and with a byte too many
pub all_editions :
    (editions (0 ∷ 0 ∷ []) ≡ 2 ∷ 0 ∷ 0 ∷ 2 ∷ 2 ∷ 2 ∷ 2 ∷ 2 ∷ 2 ∷ 2 ∷ 2 ∷ 2 ∷ 2 ∷ 2 ∷ 2 ∷ 2 ∷ [])
    × (editions [] ≡ 2 ∷ 1 ∷ 1 ∷ 2 ∷ 2 ∷ 2 ∷ 2 ∷ 2 ∷ 2 ∷ 2 ∷ 2 ∷ 2 ∷ 2 ∷ 2 ∷ 2 ∷ 2 ∷ [])
    × (editions (0 ∷ 0 ∷ 0 ∷ []) ≡ 2 ∷ 8 ∷ 8 ∷ 2 ∷ 2 ∷ 2 ∷ 2 ∷ 2 ∷ 2 ∷ 2 ∷ 2 ∷ 2 ∷ 2 ∷ 2 ∷ 2 ∷ 2 ∷ [])
unfolding computes
all_editions = (refl, refl, refl)

-- both bits behind the edition set; a name that is no name in an edition that is none; `char8_t` cut before its end
pub mixed_editions :
    (number (0x2c ∷ 0x00 ∷ 0x00 ∷ []) ≡ 0)
    × (number (0x3c ∷ 0x00 ∷ 0x00 ∷ []) ≡ 2)
    × (number (0x30 ∷ 0x01 ∷ 0x05 ∷ 0x88 ∷ 0x00 ∷ []) ≡ 2)
    × (number (0x20 ∷ 0x01 ∷ 0x05 ∷ 0x88 ∷ 0x00 ∷ []) ≡ 3)
    × (number (take 8 (one_name 2 (bytes "char8_t"))) ≡ 1)
unfolding computes
mixed_editions = (refl, refl, refl, refl, refl)

-- ---- new words in use

-- `fn requires(co_await: u8)` in an edition
abbrev in_use : ℕ → List ℕ
in_use edition =
    16 * edition ∷ 0x02 ∷ 0x23 ∷ 0x96 ∷ 0x5e ∷ 0x3d ∷ 0x74 ∷ 0xf2 ∷ 0xcb ∷ 0xcc ∷ 0x8c ∷ 0x7b ∷ 0xef ∷ 0xe1 ∷ 0xef ∷
    0x87 ∷ 0x4f ∷ 0x40 ∷ 0x18 ∷ 0x00 ∷ 0x0c ∷ 0x08 ∷ 0x00 ∷ []

pub new_words_used :
    (text_of (judge (in_use 1)) ≡ bytes
    "extern \"C\" {\nvoid cxxbridge1$205$requires(::std::uint8_t co_await) noexcept;\n} // extern \"C\"\n\nvoid requires(::std::uint8_t co_await) noexcept {\n  cxxbridge1$205$requires(co_await);\n}\n")
    × (number (in_use 2) ≡ 3)
unfolding computes
new_words_used = (refl, refl)
