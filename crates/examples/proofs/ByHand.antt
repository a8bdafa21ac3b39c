-- Document 01's table "Checked by hand"; since order 13 (document 02) 20 00 00 gives an empty text, and 30 00 00 and
-- 00 00 00 get 2.
use Rattle.std.proofs.Common.{◌≡◌, ℕ, Bool, true, false, List, [], ◌∷◌, refl, Ok}
use Rattle.lexical.specs.Bytes.{bytes}
use Rattle.format.specs.declared.Atom.TheVariants as Atom
use Rattle.format.specs.declared.Pointer.TheVariants.{Ref, SliceRef}
use Rattle.format.specs.Types.{Ty, atom, pointer, array}
use Rattle.format.specs.Bits.{width_of}
use Rattle.rules.specs.Judge.{judge, check, checked_number}
use Rattle.bridge.specs.WriteType.{write_type}
use Rattle.services.specs.Services.{answer_of}
use Rattle.bridge.specs.Write.{text}
use Rattle.examples.proofs.Computing.{computes}

-- the number of a check
abbrev pub number : List ℕ → ℕ
number sheet = checked_number (check sheet)

-- the spelling of a type of a sheet without items
abbrev spelled : Ty → List ℕ
spelled t = write_type [] t

pub checked_by_hand :
    (number (0x10 ∷ 0x00 ∷ 0x00 ∷ []) ≡ 0)
    × (answer_of text (judge (0x10 ∷ 0x00 ∷ 0x00 ∷ [])) 0 ≡ Ok 0)
    × (number (0x10 ∷ 0x00 ∷ []) ≡ 1)
    × (number (0x10 ∷ 0x00 ∷ 0x00 ∷ 0x00 ∷ []) ≡ 8)
    × (number (0x20 ∷ 0x00 ∷ 0x00 ∷ []) ≡ 0)
    × (answer_of text (judge (0x20 ∷ 0x00 ∷ 0x00 ∷ [])) 0 ≡ Ok 0)
    × (number (0x30 ∷ 0x00 ∷ 0x00 ∷ []) ≡ 2)
    × (number (0x00 ∷ 0x00 ∷ 0x00 ∷ []) ≡ 2)
    × (number [] ≡ 1)
    × (spelled (pointer SliceRef false (atom Atom.U8)) ≡ bytes "::rust::Slice<::std::uint8_t const>")
    × (spelled (pointer SliceRef true (atom Atom.U8)) ≡ bytes "::rust::Slice<::std::uint8_t >")
    × (spelled (pointer Ref false (atom Atom.F64)) ≡ bytes "double const &")
    × (spelled (array (atom Atom.Bool) 0) ≡ bytes "::std::array<bool, 0>")
    × (width_of 0 ≡ 0)
    × (width_of 1 ≡ 0)
    × (width_of 2 ≡ 1)
    × (width_of 3 ≡ 2)
    × (width_of 1023 ≡ 10)
unfolding computes
checked_by_hand = (refl, refl, refl, refl, refl, refl, refl, refl, refl, refl, refl, refl, refl, refl, refl, refl, refl, refl)
