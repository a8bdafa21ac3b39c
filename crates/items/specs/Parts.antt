-- A part of the definition that the code checks in one function, and what it is made into.
use Rattle.std.specs.Prelude.{List, ℕ}
use Rattle.format.specs.Decode.{Dec, ◌>>◌, many}
use Rattle.format.specs.Bits.{bits}
use Rattle.format.specs.Types.{Ret}
use Rattle.format.specs.Sheet.{Name, Argument}
use Rattle.format.specs.Decoding.{type, optional, argument}
use Rattle.comments.specs.Comments.{comment}

-- what stands behind a function's throws bit
unfoldable pub signature : {A : Type 0} → (Ret → List Argument → List (List ℕ) → A) → List Name → ℕ → Dec A
signature make names items =
    optional (type items) >> λ r. bits 5 >> λ a. many a (argument names items) >> λ xs. comment (λ ls. make r xs ls)
