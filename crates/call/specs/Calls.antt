-- Shapes by kind.
use Rattle.std.specs.Prelude.{Bool, true, false}
use Rattle.shape.specs.declared.ShapeKind.{ShapeKind}
use Rattle.shape.specs.declared.ShapeKind.TheVariants.{RustBox, UniquePtr, Ref, Str, SliceRef, Other}

-- a result of this kind is taken by a function
abbrev pub is_closed : ShapeKind → Bool
is_closed RustBox = true
is_closed UniquePtr = true
is_closed Ref = false
is_closed Str = true
is_closed SliceRef = true
is_closed Other = false
