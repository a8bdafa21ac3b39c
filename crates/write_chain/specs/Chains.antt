-- A type's text from outside in: what stands before each inner type, and the codes of what stands behind it.
use Rattle.std.specs.Prelude.{ℕ, zero, suc, ◌+◌, ◌*◌, ◌/◌, ◌%◌, Bool, true, false, List, [], ◌∷◌, ◌++◌, length}
use Rattle.std.specs.Prelude.{slice_index_or}
use Rattle.lexical.specs.Bytes.{bytes}
use Rattle.sink.specs.Sink.{Sink, Wrote}
use Rattle.format.specs.Types.{Ty}
use Rattle.format.specs.Sheet.{Item}
use Rattle.format.specs.Decoding.{kind_of, type_at}
use Rattle.format.specs.declared.Pointer.TheVariants.{Ref, Ptr, SliceRef}
use Rattle.format.specs.declared.TypeKind.{TypeKind}
use Rattle.format.specs.declared.TypeKind.TheVariants as Kind
use Rattle.bridge.specs.WriteType.{template_name, pointer_begin, pointer_end, write_type, write_type_space}
use Rattle.view.specs.Values.{Yields}
use Rattle.write_atom.specs.Texts.{space_of_kind}
use Rattle.write_type.specs.TypeAt.{ty_at}

-- what stands before the inner type of a template or a pointer
abbrev pub begin_of : TypeKind → List ℕ
begin_of (Kind.Template k) = template_name k
begin_of (Kind.Pointer k) = pointer_begin k
begin_of Kind.Atom = []
begin_of Kind.Named = []
begin_of Kind.Str = []
begin_of Kind.Fn = []
begin_of Kind.Array = []
begin_of Kind.Bad = []

-- what stands behind it, by the mutable bit and the kind of the inner type
abbrev pub close_of : TypeKind → Bool → TypeKind → List ℕ
close_of (Kind.Template k) mutable inner = bytes ">"
close_of (Kind.Pointer k) mutable inner = space_of_kind inner ++ pointer_end k mutable
close_of Kind.Atom mutable inner = []
close_of Kind.Named mutable inner = []
close_of Kind.Str mutable inner = []
close_of Kind.Fn mutable inner = []
close_of Kind.Array mutable inner = []
close_of Kind.Bad mutable inner = []

-- ---- codes

-- the texts of the codes: a template's; four of a reference, of a pointer and of a slice (const or mutable, with no
-- space before it or one); the space behind the whole type
abbrev pub ends : List (List ℕ)
ends =
    [] ∷ bytes ">" ∷ bytes "const &" ∷ bytes " const &" ∷ bytes "&" ∷ bytes " &" ∷ bytes "const *" ∷ bytes " const *" ∷
    bytes "*" ∷ bytes " *" ∷ bytes "const>" ∷ bytes " const>" ∷ bytes ">" ∷ bytes " >" ∷ bytes " " ∷ []

unfoldable pub end_of : ℕ → List ℕ
end_of code = slice_index_or ends code []

-- the first code of a pointer
abbrev pub base_of : TypeKind → ℕ
base_of (Kind.Pointer Ref) = 2
base_of (Kind.Pointer Ptr) = 6
base_of (Kind.Pointer SliceRef) = 10
base_of Kind.Atom = 0
base_of Kind.Named = 0
base_of (Kind.Template k) = 0
base_of Kind.Str = 0
base_of Kind.Fn = 0
base_of Kind.Array = 0
base_of Kind.Bad = 0

-- the code of what stands behind the inner type of a pointer, by the five bits that follow its kind
abbrev pub code_of : TypeKind → ℕ → ℕ
code_of j m = base_of j + m / 16 * 2 + length (space_of_kind (kind_of (m % 16)))

-- the text of a stack of codes, the last one first; no stack has more codes than its number
unfoldable pub ends_by : ℕ → ℕ → List ℕ
ends_by zero stack = []
ends_by (suc more) stack = end_of (stack % 16) ++ ends_by more (stack / 16)

unfoldable pub ends_of : ℕ → List ℕ
ends_of stack = ends_by stack stack

-- a type with the space behind it, or without
abbrev pub write_type_as : Bool → List Item → Ty → List ℕ
write_type_as true items t = write_type_space items t
write_type_as false items t = write_type items t

-- ---- what the code promises

-- with the rest behind `after`, the whole stands behind `before`
pub record Remains (before : Sink) (whole : List ℕ) (after : Sink) (rest : List ℕ) : Type 0 where
  pub done : {end : Sink} → Wrote after rest end → Wrote before whole end

-- a type stands at a position, with so many levels left; its text and that of the stack remain
pub record Entering (n : ℕ) (s : List ℕ) (items : List Item) (whole : List ℕ) (before after : Sink)
    (at levels stack : ℕ) : Type 0 where
  pub there : Yields (type_at n levels s at) (ty_at n levels s at)
  pub remains : Remains before whole after (write_type items (ty_at n levels s at) ++ ends_of stack)
