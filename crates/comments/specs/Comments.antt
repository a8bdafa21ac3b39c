-- A function's comment, and what is made of it.
use Rattle.std.specs.Prelude.{List, ℕ}
use Rattle.format.specs.Decode.{Dec, ◌>>◌, pure, many}
use Rattle.format.specs.Bits.{bits}
use Rattle.format.specs.Decoding.{line}

unfoldable pub comment : {A : Type 0} → (List (List ℕ) → A) → Dec A
comment make = bits 5 >> λ c. many c line >> λ ls. pure (make ls)
