-- An outermost type is a type with 8 levels left.
use mathlib.Core.Path.{◌≡◌, refl}
use mathlib.Core.List.{List}
use Prim.Native.Nat.{ℕ}
use Rattle.format.specs.Types.{Ty, str}
use Rattle.format.specs.Decoding.{type}
use Rattle.view.specs.Values.{Yields, type_here}
use Rattle.cursor.proofs.YieldLaws.{yielded}
use Rattle.write_type.specs.TypeAt.{ty_at}

module _ (n : ℕ) (s : List ℕ) (at : ℕ) where
  pub type_at : type_here n s at ≡ ty_at n 8 s at
  unfolding type_here ty_at type
  type_at = refl

  -- what is read there is the type there
  pub here_is : {t : Ty} → Yields (type n s at) t → type_here n s at ≡ t
  unfolding type_here
  here_is y = yielded str y

  pub here_yields : {t : Ty} → Yields (type n s at) t → Yields (type n s at) (type_here n s at)
  here_yields y = rw (here_is y) y
