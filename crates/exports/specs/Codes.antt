-- What the three services promise across C linkage, for every input.
use Rattle.std.specs.Prelude.{◌≡◌, List, ℕ, length, ℤ, Result, Ok, Err}
use Rattle.refusal.specs.declared.Refusal.{Refusal}
use Rattle.format.specs.Sheet.{Sheet}
use Rattle.rules.specs.Judge.{judge, check}
use Rattle.bridge.specs.Write.{text}
use Rattle.services.specs.Services.{struct_order, answer_of, buffer_of, written_code, checked_code}

-- check a sheet
abbrev pub ChecksCode : List ℕ → ℤ → Type 0
ChecksCode sheet code = code ≡ checked_code (check sheet)

-- the number, and every byte of the buffer afterwards; f has the bytes for an accepted sheet
pub record Codes (f : Sheet → List ℕ) (sheet buffer : List ℕ) (code : ℤ) (after : List ℕ) : Type 0 where
  pub answers : code ≡ written_code (answer_of f (judge sheet) (length buffer))
  pub leaves : after ≡ buffer_of f (judge sheet) buffer

-- list a sheet's struct order
abbrev pub OrdersCode : List ℕ → List ℕ → ℤ → List ℕ → Type 0
OrdersCode sheet buffer code after = Codes struct_order sheet buffer code after

-- write a sheet's text
abbrev pub WritesCode : List ℕ → List ℕ → ℤ → List ℕ → Type 0
WritesCode sheet buffer code after = Codes text sheet buffer code after

-- the length that is answered
abbrev pub length_of : Result ℕ Refusal → ℕ
length_of (Ok n) = n
length_of (Err e) = 0
