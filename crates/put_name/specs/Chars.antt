-- Characters in a row, as names and comment lines have them.
use Rattle.std.specs.Prelude.{List, [], ℕ}
use Rattle.format.specs.Decode.{many}
use Rattle.format.specs.Bits.{bits}
use Rattle.view.specs.Values.{value_or}

-- the n characters at a position
unfoldable pub chars_at : ℕ → List ℕ → ℕ → List ℕ
chars_at n s at = value_or [] (many n (bits 7) s at)
