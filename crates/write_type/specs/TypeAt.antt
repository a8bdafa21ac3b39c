-- A type at a position.
use Rattle.std.specs.Prelude.{ℕ, List}
use Rattle.format.specs.Types.{Ty, str}
use Rattle.format.specs.Decoding.{type_at}
use Rattle.view.specs.Values.{value_or}

-- the type at a position, with so many levels left, in a sheet of n items
unfoldable pub ty_at : ℕ → ℕ → List ℕ → ℕ → Ty
ty_at n levels s at = value_or str (type_at n levels s at)
