-- The space behind a type by its kind.
use Rattle.std.specs.Prelude.{ℕ, Bool, true, List, []}
use Rattle.lexical.specs.Bytes.{bytes}
use Rattle.lexical.specs.Decimal.{pick_text}
use Rattle.format.specs.declared.TypeKind.{TypeKind}
use Rattle.format.specs.declared.TypeKind.TheVariants as Kind
use Rattle.bridge.specs.WriteType.{is_slice}

-- whether `write_space_after_type` writes a space behind a type of the kind
abbrev pub is_spaced : TypeKind → Bool
is_spaced (Kind.Pointer k) = is_slice k
is_spaced Kind.Atom = true
is_spaced Kind.Named = true
is_spaced (Kind.Template k) = true
is_spaced Kind.Str = true
is_spaced Kind.Fn = true
is_spaced Kind.Array = true
is_spaced Kind.Bad = true

abbrev pub space_of_kind : TypeKind → List ℕ
space_of_kind kind = pick_text (is_spaced kind) (bytes " ") []
