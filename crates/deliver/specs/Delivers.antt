-- What is promised of an answer's bytes, where the sheet is accepted.
use Rattle.std.specs.Prelude.{◌≡◌, List, ℕ, length, Result}
use Rattle.refusal.specs.declared.Refusal.{Refusal}
use Rattle.services.specs.Services.{fitted, overlaid}

-- the bytes, or 13
pub record Delivers (bytes buffer : List ℕ) (answer : Result ℕ Refusal) (after : List ℕ) : Type 0 where
  pub answers : answer ≡ fitted bytes (length buffer)
  pub leaves : after ≡ overlaid bytes buffer
