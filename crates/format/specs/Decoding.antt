-- From bytes to the value of a sheet, or to the first fault of 1 to 8 (document 01, "The sheet", rules 1 to 4;
-- document 02, order 3 of names, order 13 of editions).
use Rattle.std.specs.Prelude.{List, [], ◌∷◌, Bool, true, false, not, ◌&&◌, ℕ, zero, suc, ◌-◌, ◌*◌, ◌%◌, length, get_or}
use Rattle.std.specs.Prelude.{leb, eqb}
use Rattle.refusal.specs.declared.Refusal.{Refusal}
use Rattle.refusal.specs.declared.Refusal.TheVariants.{CutSheet, Edition, BadName, BadKind, TooDeep, BadComment, Tail}
use Rattle.lexical.specs.Bytes.{within, every}
use Rattle.lexical.specs.Names.{is_name, sheet_name, table_of}
use Rattle.format.specs.declared.Atom.{Atom}
use Rattle.format.specs.declared.Atom.TheVariants as Atom
use Rattle.format.specs.declared.Template.TheVariants.{RustBox, RustVec, UniquePtr, SharedPtr, WeakPtr}
use Rattle.format.specs.declared.Template.TheVariants.{CxxVector}
use Rattle.format.specs.declared.Pointer.TheVariants.{Ref, Ptr, SliceRef}
use Rattle.format.specs.declared.TypeKind.{TypeKind}
use Rattle.format.specs.declared.TypeKind.TheVariants as Kind
use Rattle.format.specs.declared.ItemKind.{ItemKind}
use Rattle.format.specs.declared.ItemKind.TheVariants as Part
use Rattle.format.specs.Limits.{last_edition, most_bytes, most_levels}
use Rattle.format.specs.Decode.{Got, fault, got, Dec, pick, after, ◌>>◌, pure, refuse, unless, many}
use Rattle.format.specs.Bits.{bits_at, bits, bit, index}
use Rattle.format.specs.Types.{Ty, atom, named, template, pointer, str, fn, array, Ret, none, gives, tys}
use Rattle.format.specs.Sheet.{Name, Form, free, const_method, mut_method, associated, Argument, Body}
use Rattle.format.specs.Sheet.{struct, enum, cxx_type, rust_type, function, Item, Sheet}

-- ---- names

-- a name under a rule; with its length it is one field: cut before bad
unfoldable pub name_by : (List ℕ → Bool) → Dec Name
name_by rule = bits 6 >> λ n. many n (bits 7) >> λ cs. unless (rule cs) BadName (pure cs)

-- under the base rule: what stands at the position of an accepted name
unfoldable pub name : Dec Name
name = name_by is_name

-- a name of the table, by its index
unfoldable pub name_of : List Name → Dec Name
name_of names = index (length names) >> λ i. pure (get_or names i [])

-- ---- types

-- `Atom`'s order from 0
abbrev pub atoms : List Atom
atoms =
    Atom.Bool ∷ Atom.Char ∷ Atom.U8 ∷ Atom.U16 ∷ Atom.U32 ∷ Atom.U64 ∷ Atom.Usize ∷ Atom.I8 ∷ Atom.I16 ∷ Atom.I32 ∷
    Atom.I64 ∷ Atom.Isize ∷ Atom.F32 ∷ Atom.F64 ∷ Atom.CxxString ∷ Atom.RustString ∷ []

unfoldable pub atom_of : ℕ → Atom
atom_of n = get_or atoms n Atom.Bool

-- "A type is a 4-bit kind": 12 and 15 are bad
abbrev pub kinds : List TypeKind
kinds =
    Kind.Atom ∷ Kind.Named ∷ Kind.Template RustBox ∷ Kind.Template RustVec ∷ Kind.Template UniquePtr ∷
    Kind.Template SharedPtr ∷ Kind.Template WeakPtr ∷ Kind.Pointer Ref ∷ Kind.Pointer Ptr ∷ Kind.Str ∷
    Kind.Template CxxVector ∷ Kind.Fn ∷ Kind.Bad ∷ Kind.Pointer SliceRef ∷ Kind.Array ∷ Kind.Bad ∷ []

unfoldable pub kind_of : ℕ → TypeKind
kind_of k = get_or kinds k Kind.Bad

-- a bit, and if it is set a type
abbrev pub optional : Dec Ty → Dec Ret
optional ty = bit >> λ b. pick b (ty >> λ t. pure (gives t)) (pure none)

-- what stands behind the kind, in a sheet of so many items; ty reads an inner type
abbrev pub type_body : TypeKind → ℕ → Dec Ty → Dec Ty
type_body Kind.Atom items ty = bits 4 >> λ a. pure (atom (atom_of a))
type_body Kind.Named items ty = index items >> λ i. pure (named i)
type_body (Kind.Template k) items ty = ty >> λ t. pure (template k t)
type_body (Kind.Pointer k) items ty = bit >> λ m. ty >> λ t. pure (pointer k m t)
type_body Kind.Str items ty = pure str
type_body Kind.Fn items ty = optional ty >> λ r. bits 4 >> λ n. many n ty >> λ ts. pure (fn r (tys ts))
type_body Kind.Array items ty = ty >> λ t. bits 32 >> λ n. pure (array t n)
type_body Kind.Bad items ty = refuse BadKind

-- at depth 9 the kind is the field at fault: 5 is the lower number there
abbrev pub too_deep : TypeKind → Refusal
too_deep Kind.Bad = BadKind
too_deep Kind.Atom = TooDeep
too_deep Kind.Named = TooDeep
too_deep (Kind.Template k) = TooDeep
too_deep (Kind.Pointer k) = TooDeep
too_deep Kind.Str = TooDeep
too_deep Kind.Fn = TooDeep
too_deep Kind.Array = TooDeep

-- a type, with so many levels left
unfoldable pub type_at : ℕ → ℕ → Dec Ty
type_at items zero s at = after (bits 4 s at) (λ k n. fault (too_deep (kind_of k)))
type_at items (suc levels) s at =
    after (bits 4 s at) (λ k n. type_body (kind_of k) items (λ t m. type_at items levels t m) s n)

-- an outermost type has depth 1; depth 8 is allowed
unfoldable pub type : ℕ → Dec Ty
type items = type_at items most_levels

-- ---- items; names are the characters of the name table, items is the number of items

-- characters 32 to 126, the last not a backslash
unfoldable pub line_ok : List ℕ → Bool
line_ok cs = every (within 32 126) cs && not (eqb (get_or cs (length cs - 1) 0) 92)

-- a comment line with its length is one field
unfoldable pub line : Dec (List ℕ)
line = bits 7 >> λ n. many n (bits 7) >> λ cs. unless (line_ok cs) BadComment (pure cs)

unfoldable pub argument : List Name → ℕ → Dec Argument
argument names items = name_of names >> λ n. type items >> λ t. pure (record { name = n; type = t })

-- 0 free, 1 method on const, 2 method on mutable, 3 associated
abbrev pub form_of : ℕ → ℕ → Form
form_of zero i = free
form_of (suc zero) i = const_method i
form_of (suc (suc zero)) i = mut_method i
form_of (suc (suc (suc k))) i = associated i

unfoldable pub form : ℕ → Dec Form
form items = bits 2 >> λ f. pick (eqb f 0) (pure free) (index items >> λ i. pure (form_of f i))

unfoldable pub function_body : List Name → ℕ → Dec Body
function_body names items =
    name_of names >> λ n. form items >> λ f. bit >> λ t. optional (type items) >> λ r.
    bits 5 >> λ a. many a (argument names items) >> λ xs. bits 5 >> λ c. many c line >> λ ls.
    pure (function (record { rust = n; form = f; throws = t; return = r; arguments = xs; comment = ls }))

unfoldable pub struct_body : ℕ → Dec Body
struct_body items = bit >> λ p. bits 6 >> λ n. many n (type items) >> λ ts. pure (struct p ts)

unfoldable pub enum_body : Dec Body
enum_body = bit >> λ p. bits 4 >> λ a. unless (within 2 11 a) BadKind (bit >> λ c. pure (enum p (atom_of a) c))

abbrev pub parts : List ItemKind
parts = Part.Struct ∷ Part.Enum ∷ Part.CxxType ∷ Part.RustType ∷ Part.RustFunction ∷ Part.Bad ∷ Part.Bad ∷ Part.Bad ∷ []

unfoldable pub part_of : ℕ → ItemKind
part_of k = get_or parts k Part.Bad

-- what stands behind the C++ name, by kind
abbrev pub item_body : ItemKind → List Name → ℕ → Dec Body
item_body Part.Struct names items = struct_body items
item_body Part.Enum names items = enum_body
item_body Part.CxxType names items = bit >> λ p. pure (cxx_type p)
item_body Part.RustType names items = bit >> λ p. pure (rust_type p)
item_body Part.RustFunction names items = function_body names items
item_body Part.Bad names items = refuse BadKind

abbrev pub is_bad : ItemKind → Bool
is_bad Part.Bad = true
is_bad Part.Struct = false
is_bad Part.Enum = false
is_bad Part.CxxType = false
is_bad Part.RustType = false
is_bad Part.RustFunction = false

unfoldable pub namespace : List Name → Dec (List Name)
namespace names = bits 3 >> λ d. many d (name_of names)

unfoldable pub item : List Name → ℕ → Dec Item
item names items =
    bits 3 >> λ k. unless (not (is_bad (part_of k))) BadKind
    (namespace names >> λ ns. name_of names >> λ n. item_body (part_of k) names items >> λ b.
    pure (record { namespace = ns; cxx = n; body = b }))

-- ---- the sheet

-- zero bits up to the byte's end, and no byte more
unfoldable pub tail : {A : Type 0} → A → Dec A
tail x s at =
    after (bits ((8 - at % 8) % 8) s at) (λ z n. pick (eqb z 0 && eqb n (8 * length s)) (got x n) (fault Tail))

unfoldable pub item_table : List Name → Dec (List Item)
item_table names = bits 8 >> λ n. many n (item names n)

-- a name of the table, used or not, keeps the rule of a sheet with these words
abbrev pub table_name : List (List ℕ) → Dec Name
table_name words = name_by (sheet_name words)

unfoldable pub name_table : List (List ℕ) → Dec (List Name)
name_table words = bits 10 >> λ n. many n (table_name words)

-- every edition has this layout
unfoldable pub behind_edition : List (List ℕ) → Dec Sheet
behind_edition words =
    bit >> λ h. bit >> λ d. name_table words >> λ names. item_table names >> λ is.
    tail (record { header = h; doxygen = d; items = is })

-- 1 is ISO C++17, 2 is ISO C++20
unfoldable pub edition : Dec ℕ
edition = bits 4 >> λ e. unless (within 1 last_edition e) Edition (pure e)

-- the edition that a sheet's bytes tell
abbrev pub edition_of : List ℕ → ℕ
edition_of s = bits_at s 0 4

unfoldable pub sheet : Dec Sheet
sheet = edition >> λ e. behind_edition (table_of e)

-- at most 32,768 bytes: excess length comes first
unfoldable pub decode : List ℕ → Got Sheet
decode s = pick (leb (length s) most_bytes) (sheet s 0) (fault CutSheet)
