-- The table of positions and the pool of texts that a writer is lent.
use Rattle.std.specs.Prelude.{◌≡◌, List, ℕ, ◌+◌, ◌-◌, ◌*◌, ◌/◌, ◌%◌, ◌<◌, ◌≤◌, length, get_or, take, drop}
use Rattle.std.proofs.Math.Seq.{slice}
use Rattle.format.specs.Limits.{most_names, most_items}
use Rattle.format.specs.Decode.{got, many}
use Rattle.format.specs.Bits.{bits_at}
use Rattle.format.specs.Decoding.{type, argument}
use Rattle.format.specs.Types.{Ty}
use Rattle.format.specs.Sheet as Sheet
use Rattle.syntax.specs.Items.{item_at, full_name}
use Rattle.bridge.specs.WriteType.{write_type_space}
use Rattle.view.specs.declared.ItemView.{ItemView}
use Rattle.view.specs.declared.FunctionView.{FunctionView}
use Rattle.view.specs.Values.{next_of, Yields, name_at, names_at, items_at, item_no, function_at, argument_at}
use Rattle.view.specs.Values.{type_here, Whole}
use Rattle.view.specs.Views.{ItemAt, FunctionAt, ArgumentsAt, FactsOf, unpacked}

-- the positions of the names, as many as place 1023 says
unfoldable pub names_in : List ℕ → List ℕ
names_in t = take (get_or t 1023 0) t

-- those of the items from place 1024 on, as many as place 1279 says
unfoldable pub items_in : List ℕ → List ℕ
items_in t = take (get_or t 1279 0) (drop 1024 t)

-- t is the table of these names and items
pub record Listed (names items t : List ℕ) : Type 0 where
  pub long : length t ≡ 3068
  pub names_are : names_in t ≡ names
  pub items_are : items_in t ≡ items
  pub names_count : get_or t 1023 0 ≤ most_names
  pub items_count : get_or t 1279 0 ≤ most_items

-- ---- the sheet, by its table

abbrev pub items_of : List ℕ → List ℕ → List Sheet.Item
items_of s t = items_at s (names_in t) (items_in t)

abbrev pub item_of : List ℕ → List ℕ → ℕ → Sheet.Item
item_of s t i = item_no s (names_in t) (items_in t) i

abbrev pub function_of : List ℕ → List ℕ → ℕ → Sheet.Function
function_of s t i = function_at s (names_in t) (items_in t) i

abbrev pub argument_of : List ℕ → List ℕ → ℕ → ℕ → Sheet.Argument
argument_of s t i j = argument_at s (names_in t) (items_in t) i j

-- ---- types that were met

-- what is kept of a type: it stands at word / 512, key has all its 32 - word / 16 % 32 bits, and word % 16 is the end
-- of an entry for it
pub record Met (s names items : List ℕ) (key word : ℕ) : Type 0 where
  pub here : type (length items) s (word / 512) ≡
      got (type_here (length items) s (word / 512)) (word / 512 + (32 - word / 16 % 32))
  pub bits : bits_at s (word / 512) (32 - word / 16 % 32) ≡ key
  pub facts : FactsOf s names items (unpacked (word / 512 * 16384 + word % 16))

-- the same type stands at a position
pub record Known (s names items : List ℕ) (at word : ℕ) : Type 0 where
  pub here : type (length items) s at ≡
      got (type_here (length items) s (word / 512)) (at + (32 - word / 16 % 32))
  pub there : Yields (type (length items) s (word / 512)) (type_here (length items) s (word / 512))
  pub facts : FactsOf s names items (unpacked (word / 512 * 16384 + word % 16))

-- the table of a decoded sheet; a word from place 2940 on that is not 0 is that of a type that was met, with its key
-- 128 places before it
pub record Tabled (s t : List ℕ) : Type 0 where
  pub long : length t ≡ 3068
  pub names : get_or t 1023 0 ≤ most_names
  pub items : get_or t 1279 0 ≤ most_items
  pub whole : Whole s (names_in t) (items_in t)
  pub met : (k : ℕ) → k < 128 → (get_or t (2940 + k) 0 ≡ 0 → ⊥) →
      Met s (names_in t) (items_in t) (get_or t (2812 + k) 0) (get_or t (2940 + k) 0)

-- v is the view of an item, of a function; its arguments stand in offsets
abbrev pub Item : List ℕ → List ℕ → ItemView → Type 0
Item s t v = ItemAt s (names_in t) (items_in t) v

abbrev pub Function : List ℕ → List ℕ → FunctionView → Type 0
Function s t v = FunctionAt s (names_in t) (items_in t) v

abbrev pub Arguments : List ℕ → List ℕ → FunctionView → List ℕ → Type 0
Arguments s t v offsets = ArgumentsAt s (names_in t) (items_in t) v offsets

-- the type at a position, and that one stands there
abbrev pub type_of : List ℕ → List ℕ → ℕ → Ty
type_of s t at = type_here (length (items_in t)) s at

abbrev pub Typed : List ℕ → List ℕ → ℕ → Type 0
Typed s t at = Yields (type (length (items_in t)) s at) (type_of s t at)

-- the position behind a function's arguments
abbrev pub behind_arguments : List ℕ → List ℕ → FunctionView → ℕ
behind_arguments s t v =
    next_of (many v.arguments (argument (names_at s (names_in t)) (length (items_in t))) s v.first.at)

-- ---- the pool

-- the text is that of so many bytes from start on
pub record Part (pool : List ℕ) (start count : ℕ) (text : List ℕ) : Type 0 where
  pub near : start + count ≤ length pool
  pub is : slice start (start + count) pool ≡ text

-- a word that is not 0 says where its text is: that of a name from place 1280 on, the full name of an item from 2303
-- on, and from 2685 on a type, with the space behind it, whose position stands 127 places before
pub record Lent (s t pool : List ℕ) : Type 0 where
  pub tabled : Tabled s t
  pub names : (i : ℕ) → i < length (names_in t) → (get_or t (1280 + i) 0 ≡ 0 → ⊥) →
      Part pool (get_or t (1280 + i) 0 / 64) (get_or t (1280 + i) 0 % 64) (name_at s (get_or (names_in t) i 0))
  pub full : (i : ℕ) → i < length (items_in t) → (get_or t (2303 + i) 0 ≡ 0 → ⊥) →
      Part pool (get_or t (2303 + i) 0 / 1024) (get_or t (2303 + i) 0 % 1024) (full_name (item_at (items_of s t) i))
  pub types : (k : ℕ) → k < 127 → (get_or t (2685 + k) 0 ≡ 0 → ⊥) →
      Part pool (get_or t (2685 + k) 0 / 1024) (get_or t (2685 + k) 0 % 1024)
      (write_type_space (items_of s t) (type_of s t (get_or t (2558 + k) 0)))

-- t has the names and items of `before`, and its texts are in the first bytes of the pool, up to `end`
pub record Filled (s before t pool : List ℕ) (end : ℕ) : Type 0 where
  pub lent : Lent s t (take end pool)
  pub room : end ≤ length pool
  pub same_names : names_in t ≡ names_in before
  pub same_items : items_in t ≡ items_in before
