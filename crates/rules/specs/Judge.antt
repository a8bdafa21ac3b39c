-- What documents 01 and 02 say of any bytes: the value of an accepted sheet, or the refusal.
use Rattle.std.specs.Prelude.{List, ℕ, Result, Ok, Err}
use Rattle.refusal.specs.declared.Refusal.{Refusal}
use Rattle.refusal.specs.declared.Refusal.TheVariants.{WrongPart, Taken, UnfitArgument, Ring}
use Rattle.refusal.specs.Refusal.{number_of}
use Rattle.format.specs.Decode.{Got, fault, got, pick}
use Rattle.format.specs.Sheet.{Sheet}
use Rattle.format.specs.Decoding.{decode}
use Rattle.rules.specs.Rules.{wrong_part, taken, unfit_argument, ring}

pub data Judged : Type 0 where
  refused : Refusal → Judged
  accepted : Sheet → Judged

-- "Then 9 to 12, lowest number"
unfoldable pub ruled : Sheet → Judged
ruled x =
    pick (wrong_part x.items) (refused WrongPart)
    (pick (taken x.items) (refused Taken)
    (pick (unfit_argument x.items) (refused UnfitArgument)
    (pick (ring x.items) (refused Ring) (accepted x))))

abbrev pub judged : Got Sheet → Judged
judged (fault e) = refused e
judged (got x n) = ruled x

unfoldable pub judge : List ℕ → Judged
judge s = judged (decode s)

-- the answer of a check
abbrev pub checked_of : Judged → Result Unit Refusal
checked_of (refused e) = Err e
checked_of (accepted x) = Ok tt

unfoldable pub check : List ℕ → Result Unit Refusal
check s = checked_of (judge s)

-- its number: 0 if accepted
abbrev pub checked_number : Result Unit Refusal → ℕ
checked_number (Ok u) = 0
checked_number (Err e) = number_of e
