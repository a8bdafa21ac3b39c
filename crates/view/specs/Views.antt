-- What the readers promise of their views.
use Rattle.std.specs.Prelude.{◌≡◌, List, Bool, true, false, ℕ, zero, suc, ◌/◌}
use Rattle.std.specs.Prelude.{◌%◌, ◌<◌, ◌≤◌, eqb, length, get_or, Option, None, Some, IfSome}
use Rattle.format.specs.Limits.{most_bits, most_namespaces, most_arguments}
use Rattle.format.specs.Decode.{Got, got, Dec, pick, ◌>>◌, pure, many}
use Rattle.format.specs.Bits.{bits}
use Rattle.format.specs.Types.{Ty, Ret, none, gives}
use Rattle.format.specs.Sheet.{Form, free, const_method, mut_method, associated}
use Rattle.format.specs.Sheet.{Argument, Function, Body, struct, enum, cxx_type, rust_type, function, Item}
use Rattle.format.specs.Decoding.{name_of, type, line, argument, item_body}
use Rattle.format.specs.declared.Template.{Template}
use Rattle.format.specs.declared.Template.TheVariants.{RustBox, RustVec, UniquePtr, SharedPtr, WeakPtr, CxxVector}
use Rattle.format.specs.declared.TypeKind.{TypeKind}
use Rattle.format.specs.declared.TypeKind.TheVariants as Kind
use Rattle.format.specs.declared.ItemKind.{ItemKind}
use Rattle.format.specs.declared.ItemKind.TheVariants.{Struct, Enum, CxxType, RustType, RustFunction, Bad}
use Rattle.syntax.specs.Items.{item_at}
use Rattle.syntax.specs.Types.{is_indirect_template, needs_indirect_abi, is_rust_string}
pub use Rattle.cursor.specs.Yielding.{Finds}
pub use Rattle.types.specs.Kinds.{kind_of_type}
use Rattle.view.specs.declared.ItemView.{ItemView}
use Rattle.view.specs.declared.FormView.{FormView}
use Rattle.view.specs.declared.FormView.TheVariants.{Free, ConstMethod, MutMethod, Associated}
use Rattle.cursor.specs.declared.Cursor.{Cursor}
use Rattle.view.specs.declared.FunctionView.{FunctionView}
use Rattle.view.specs.declared.ArgumentView.{ArgumentView}
use Rattle.view.specs.Values.{value_or, next_of, Yields, name_at, names_at, items_at, function_at, argument_at}
use Rattle.view.specs.Values.{type_here}

-- what a body's kind is
abbrev pub kind_of_body : Body → ItemKind
kind_of_body (struct p ts) = Struct
kind_of_body (enum p a c) = Enum
kind_of_body (cxx_type p) = CxxType
kind_of_body (rust_type p) = RustType
kind_of_body (function f) = RustFunction

abbrev pub is_function_kind : ItemKind → Bool
is_function_kind RustFunction = true
is_function_kind Struct = false
is_function_kind Enum = false
is_function_kind CxxType = false
is_function_kind RustType = false
is_function_kind Bad = false

-- v is a view of the item x, in a sheet of n items
pub record ViewOf (s names : List ℕ) (n : ℕ) (x : Item) (v : ItemView) : Type 0 where
  pub kind : v.kind ≡ kind_of_body x.body
  pub depth : v.depth ≡ length x.namespace
  pub spaces : Yields (many v.depth (name_of (names_at s names)) s v.spaces.at) x.namespace
  pub shallow : v.depth ≤ most_namespaces
  pub near : v.spaces.at ≤ most_bits
  pub named : v.name < length names
  pub cxx : name_at s (get_or names v.name 0) ≡ x.cxx
  pub body : Yields (item_body v.kind (names_at s names) n s v.body.at) x.body

-- v is the view of the item of its number
pub record ItemAt (s names items : List ℕ) (v : ItemView) : Type 0 where
  pub there : v.number < length items
  pub view : ViewOf s names (length items) (item_at (items_at s names items) v.number) v

-- ---- functions

-- the view of the form of a number, with its self type's item
abbrev pub form_view : ℕ → ℕ → FormView
form_view zero i = Free
form_view (suc zero) i = ConstMethod i
form_view (suc (suc zero)) i = MutMethod i
form_view (suc (suc (suc k))) i = Associated i

-- what a view of a form stands for
abbrev pub form_of : FormView → Form
form_of Free = free
form_of (ConstMethod i) = const_method i
form_of (MutMethod i) = mut_method i
form_of (Associated i) = associated i

-- the number of the self type's item
abbrev pub self_number : FormView → Option ℕ
self_number Free = None
self_number (ConstMethod i) = Some i
self_number (MutMethod i) = Some i
self_number (Associated i) = Some i

-- r is a view of the form x, in a sheet of n items
pub record FormOf (x : Form) (n : ℕ) (r : FormView) : Type 0 where
  pub form : x ≡ form_of r
  pub owner : IfSome (self_number r) (λ i. i < n)

-- where the decoder's p is a form, r is its view, and c stands behind it
pub record Formed (p : Got Form) (n : ℕ) (r : FormView) (c : Cursor) : Type 0 where
  pub there : (x : Form) (m : ℕ) → p ≡ got x m → FormOf x n r × (m ≡ c.at)

-- what stands behind a return bit
abbrev pub return_of : Bool → Dec Ty → Dec Ret
return_of b ty = pick b (ty >> λ t. pure (gives t)) (pure none)

-- it, in a sheet of n items
unfoldable pub return_here : Bool → ℕ → List ℕ → ℕ → Ret
return_here b n s at = value_or none (return_of b (type n) s at)

-- what stands behind the arguments
unfoldable pub comment_lines : Dec (List (List ℕ))
comment_lines = bits 5 >> λ c. many c line

-- v is a view of the function f, in a sheet of n items
pub record FunctionOf (s names : List ℕ) (n : ℕ) (f : Function) (v : FunctionView) : Type 0 where
  pub named : v.rust < length names
  pub rust : name_at s (get_or names v.rust 0) ≡ f.rust
  pub form : FormOf f.form n v.form
  pub throws : v.throws ≡ f.throws
  pub result : Yields (return_of v.returns (type n) s v.result.at) f.return
  pub few : v.arguments ≤ most_arguments
  pub arguments : Yields (many v.arguments (argument (names_at s names) n) s v.first.at) f.arguments
  pub comment :
      Yields (comment_lines s (next_of (many v.arguments (argument (names_at s names) n) s v.first.at)))
      f.comment

-- v is the view of the function of its number
pub record FunctionAt (s names items : List ℕ) (v : FunctionView) : Type 0 where
  pub there : v.number < length items
  pub body : (item_at (items_at s names items) v.number).body ≡ function (function_at s names items v.number)
  pub view : FunctionOf s names (length items) (function_at s names items v.number) v

-- v is a view of the argument x, in a sheet of n items
pub record ArgumentOf (s names : List ℕ) (n : ℕ) (x : Argument) (v : ArgumentView) : Type 0 where
  pub named : v.name < length names
  pub name : name_at s (get_or names v.name 0) ≡ x.name
  pub of : Yields (type n s v.of.at) x.type

-- what a view says of an argument's type by its kind: 1 for a RustBox, 2 for a UniquePtr
abbrev pub owner_of_template : Template → ℕ
owner_of_template RustBox = 1
owner_of_template UniquePtr = 2
owner_of_template RustVec = 0
owner_of_template SharedPtr = 0
owner_of_template WeakPtr = 0
owner_of_template CxxVector = 0

abbrev pub owner_of : TypeKind → ℕ
owner_of (Kind.Template k) = owner_of_template k
owner_of (Kind.Pointer k) = 0
owner_of Kind.Atom = 0
owner_of Kind.Named = 0
owner_of Kind.Str = 0
owner_of Kind.Fn = 0
owner_of Kind.Array = 0
owner_of Kind.Bad = 0

-- v says of a type what the one that stands at its position is
pub record FactsOf (s names items : List ℕ) (v : ArgumentView) : Type 0 where
  pub owner : v.owner ≡ owner_of (kind_of_type (type_here (length items) s v.of.at))
  pub indirect : v.indirect ≡ needs_indirect_abi (items_at s names items) (type_here (length items) s v.of.at)
  pub string : v.string ≡ is_rust_string (type_here (length items) s v.of.at)

-- the view that an entry of a table of arguments holds
abbrev pub unpacked : ℕ → ArgumentView
unpacked e = record {
  name = e / 16 % 1024;
  of = record { at = e / 16384 };
  owner = e / 4 % 4;
  indirect = eqb (e % 2) 1;
  string = eqb (e / 2 % 2) 1;
}

-- e is the entry of an argument with this name, whose type stands at a position
pub record EntryOf (s names items : List ℕ) (name at e : ℕ) : Type 0 where
  pub named : (unpacked e).name ≡ name
  pub of : (unpacked e).of.at ≡ at
  pub facts : FactsOf s names items (unpacked e)

-- the front of offsets holds views of the arguments of v
pub record ArgumentsAt (s names items : List ℕ) (v : FunctionView) (offsets : List ℕ) : Type 0 where
  pub count : length (function_at s names items v.number).arguments ≡ v.arguments
  pub each : (j : ℕ) → j < v.arguments →
      ArgumentOf s names (length items) (argument_at s names items v.number j) (unpacked (get_or offsets j 0)) ×
      FactsOf s names items (unpacked (get_or offsets j 0))

-- ---- types

abbrev pub is_named_kind : TypeKind → Bool
is_named_kind Kind.Named = true
is_named_kind Kind.Atom = false
is_named_kind (Kind.Template k) = false
is_named_kind (Kind.Pointer k) = false
is_named_kind Kind.Str = false
is_named_kind Kind.Fn = false
is_named_kind Kind.Array = false
is_named_kind Kind.Bad = false

-- the kinds that say by themselves whether a type is indirect
abbrev pub is_indirect_kind : TypeKind → Bool
is_indirect_kind Kind.Array = true
is_indirect_kind (Kind.Template k) = is_indirect_template k
is_indirect_kind Kind.Atom = false
is_indirect_kind Kind.Named = false
is_indirect_kind (Kind.Pointer k) = false
is_indirect_kind Kind.Str = false
is_indirect_kind Kind.Fn = false
is_indirect_kind Kind.Bad = false

-- the bits of a kind before its inner type, where nothing stands behind that
abbrev pub prefix_of : TypeKind → ℕ
prefix_of (Kind.Template k) = 4
prefix_of (Kind.Pointer k) = 5
prefix_of Kind.Atom = 0
prefix_of Kind.Named = 0
prefix_of Kind.Str = 0
prefix_of Kind.Fn = 0
prefix_of Kind.Array = 0
prefix_of Kind.Bad = 0
