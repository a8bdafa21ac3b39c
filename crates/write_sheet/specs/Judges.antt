-- What is promised of an answer's bytes, where the sheet is decoded.
use Rattle.std.specs.Prelude.{◌≡◌, List, ℕ, Result, Ok, Err}
use Rattle.refusal.specs.declared.Refusal.{Refusal}
use Rattle.format.specs.Sheet.{Sheet}
use Rattle.bridge.specs.Write.{text}
use Rattle.check_sheet.specs.Ruled.{ruled_items}
use Rattle.deliver.specs.Delivers.{Delivers}

-- a refusal of 9 to 12, else the text
abbrev pub JudgedBy : Result Unit Refusal → Sheet → List ℕ → Result ℕ Refusal → List ℕ → Type 0
JudgedBy (Err e) x buffer answer after = (answer ≡ Err e) × (after ≡ buffer)
JudgedBy (Ok u) x buffer answer after = Delivers (text x) buffer answer after

-- the answer to a decoded sheet
pub record Judges (x : Sheet) (buffer : List ℕ) (answer : Result ℕ Refusal) (after : List ℕ) : Type 0 where
  pub is : JudgedBy (ruled_items x.items) x buffer answer after
