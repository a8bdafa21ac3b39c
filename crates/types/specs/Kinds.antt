-- The outermost type at a position, and its kind.
use Rattle.std.specs.Prelude.{List, ℕ}
use Rattle.format.specs.Types.{Ty, atom, named, template, pointer, str, fn, array}
use Rattle.format.specs.declared.TypeKind.{TypeKind}
use Rattle.format.specs.declared.TypeKind.TheVariants as Kind
use Rattle.format.specs.Decoding.{type}
use Rattle.cursor.specs.Yielding.{value_or}

-- in a sheet of n items
unfoldable pub type_here : ℕ → List ℕ → ℕ → Ty
type_here n s at = value_or str (type n s at)

abbrev pub kind_of_type : Ty → TypeKind
kind_of_type (atom a) = Kind.Atom
kind_of_type (named i) = Kind.Named
kind_of_type (template k t) = Kind.Template k
kind_of_type (pointer k m t) = Kind.Pointer k
kind_of_type str = Kind.Str
kind_of_type (fn r ts) = Kind.Fn
kind_of_type (array t n) = Kind.Array
