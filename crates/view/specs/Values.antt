-- The names, items and types of a decoded sheet, as functions of its bytes and of its two tables of positions.
use Rattle.std.specs.Prelude.{◌≡◌, List, [], map, false, ℕ, ◌<◌, ◌≤◌, length, get_or}
use Rattle.format.specs.Limits.{most_items}
use Rattle.format.specs.Types.{str, none}
use Rattle.format.specs.Sheet.{free, Argument, Function, Body, struct, enum, cxx_type, rust_type, function, Item}
use Rattle.format.specs.Decoding.{item}
use Rattle.syntax.specs.Items.{item_at}
pub use Rattle.cursor.specs.Yielding.{value_or, next_of, Yields}
unfoldable pub use Rattle.names.specs.Naming.{name_at, names_at}
pub use Rattle.names.specs.Naming.{Named}
unfoldable pub use Rattle.types.specs.Kinds.{type_here}
use Rattle.names.specs.Digests.{digests_at}

-- ---- values by position

abbrev no_function : Function
no_function = record { rust = []; form = free; throws = false; return = none; arguments = []; comment = [] }

-- the item at a position, in a sheet with these two tables
unfoldable pub one_item_at : List ℕ → List ℕ → List ℕ → ℕ → Item
one_item_at s names items at =
    value_or (record { namespace = []; cxx = []; body = cxx_type false }) (item (names_at s names) (length items) s at)

-- the items of the sheet
unfoldable pub items_at : List ℕ → List ℕ → List ℕ → List Item
items_at s names items = map (one_item_at s names items) items

-- item i of the sheet
abbrev pub item_no : List ℕ → List ℕ → List ℕ → ℕ → Item
item_no s names items i = item_at (items_at s names items) i

-- the function of a body that is one
abbrev pub function_in : Body → Function
function_in (function f) = f
function_in (struct p ts) = no_function
function_in (enum p a c) = no_function
function_in (cxx_type p) = no_function
function_in (rust_type p) = no_function

-- the function of item i
unfoldable pub function_at : List ℕ → List ℕ → List ℕ → ℕ → Function
function_at s names items i = function_in (item_at (items_at s names items) i).body

-- its argument j
unfoldable pub argument_at : List ℕ → List ℕ → List ℕ → ℕ → ℕ → Argument
argument_at s names items i j = get_or (function_at s names items i).arguments j (record { name = []; type = str })

-- ---- a decoded sheet

-- at each position of the first table stands a name, and at each of the other the item of that number
pub record Whole (s names items : List ℕ) : Type 0 where
  pub named : Named s names
  pub few : length items ≤ most_items
  pub each : (i : ℕ) → i < length items →
      Yields (item (names_at s names) (length items) s (get_or items i 0)) (item_at (items_at s names items) i)

-- and the digests are those of the names
pub record Ready (s names items digests : List ℕ) : Type 0 where
  pub whole : Whole s names items
  pub digested : digests ≡ digests_at s names
