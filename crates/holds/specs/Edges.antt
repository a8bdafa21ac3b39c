-- What is promised of the table of held structs that is filled from a sheet.
use Rattle.std.specs.Prelude.{◌≡◌, List, [], ◌∷◌, ◌++◌, Bool, true, false, ℕ, ◌+◌, ◌<◌, ◌≤◌, length, get_or, take, eqb}
use Rattle.std.specs.Prelude.{Option, Some, None}
use Rattle.format.specs.Decode.{Got, Dec, ◌>>◌, pure, many}
use Rattle.format.specs.Bits.{index}
use Rattle.format.specs.Types.{Ty, named, str}
use Rattle.format.specs.Sheet.{Item}
use Rattle.format.specs.Decoding.{type}
use Rattle.format.specs.declared.ItemKind.{ItemKind}
use Rattle.format.specs.declared.ItemKind.TheVariants.{Struct, Enum, CxxType, RustType, RustFunction, Bad}
use Rattle.toposort.specs.Adjacency.{item_numbers, graph_of, Adjacency}
use Rattle.syntax.specs.Items.{item_at, is_struct}
use Rattle.rules.specs.Rules.{held_by, held_structs, structs}
use Rattle.view.specs.Values.{value_or, next_of}
use Rattle.holds.specs.declared.FieldView.{FieldView}

abbrev pub is_struct_kind : ItemKind → Bool
is_struct_kind Struct = true
is_struct_kind Enum = false
is_struct_kind CxxType = false
is_struct_kind RustType = false
is_struct_kind RustFunction = false
is_struct_kind Bad = false

-- at an item's number stands a 1 exactly if it is a struct
pub record Flags (items : List Item) (structs : List ℕ) : Type 0 where
  pub size : length structs ≡ item_numbers
  pub each : (i : ℕ) → i < length items → eqb (get_or structs i 0) 1 ≡ is_struct (item_at items i).body

-- a number, if there is one
abbrev pub counted : Option ℕ → List ℕ
counted None = []
counted (Some i) = i ∷ []

-- xs were put behind the first `at` of a list; the answer r is where they end
pub record Puts (xs : List ℕ) (at : ℕ) (before : List ℕ) (r : ℕ) (after : List ℕ) : Type 0 where
  pub front : take r after ≡ take at before ++ xs
  pub end : r ≡ at + length xs
  pub kept : length after ≡ length before

-- f tells of a field that is the decoder's p: the struct that it holds by its name, and the position behind it
pub record Tells (items : List Item) (p : Got Ty) (f : FieldView) : Type 0 where
  pub held : counted f.held ≡ held_by items (value_or str p)
  pub next : f.next.at ≡ next_of p

-- a named type, behind its kind, in a sheet of n items
abbrev pub named_at : ℕ → Dec Ty
named_at n = index n >> λ i. pure (named i)

-- the types of n fields at a position, in a sheet of so many items
unfoldable pub fields_here : ℕ → ℕ → List ℕ → ℕ → List Ty
fields_here items n s at = value_or [] (many n (type items) s at)

-- the table says of every item which structs it holds
pub record Edges (items : List Item) (starts held : List ℕ) : Type 0 where
  pub graph : (i : ℕ) → graph_of starts held i ≡ held_structs items i
  pub table : Adjacency starts held

-- the first n are the numbers of the structs
pub record StructNumbers (items : List Item) (n : ℕ) (numbers : List ℕ) : Type 0 where
  pub front : take n numbers ≡ structs items
  pub inside : n ≤ length numbers
