-- A text does not depend on the sheet's edition (document 02, order 13).
use mathlib.Core.Path.{◌≡◌, ap}
use mathlib.Core.List.{List}
use Prim.Native.Nat.{ℕ}
use Rattle.format.specs.Sheet.{Sheet}
use Rattle.rules.specs.Judge.{accepted, judge}
use Rattle.decoded.specs.Editions.{SameButEdition}
use Rattle.decoded.proofs.Accepted.{same_value}
use Rattle.bridge.specs.Write.{text}

-- "The text of a sheet accepted in both is the same"
pub same_text : (s t : List ℕ) → SameButEdition s t → (x y : Sheet) → judge s ≡ accepted x → judge t ≡ accepted y →
    text x ≡ text y
same_text s t same x y p q = ap text (same_value s t same x y p q)
