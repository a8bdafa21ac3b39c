-- Items that take the same name, told by their parts.
use Rattle.std.specs.Prelude.{◌≡◌, List, [], ◌∷◌, map, Bool, true, false, ◌&&◌, ℕ, ◌<◌, ◌≤◌, length, get_or}
use Rattle.lexical.specs.Bytes.{same}
use Rattle.format.specs.Decode.{pick}
use Rattle.format.specs.Sheet.{Name, Form, Item}
use Rattle.syntax.specs.Items.{item_at, full_name, self_type, is_function}
use Rattle.syntax.specs.Mangle.{extern_fn}
use Rattle.view.specs.Values.{item_no, function_in}
use Rattle.names.specs.Digests.{digest}

-- two lists of names are equal, name by name
unfoldable pub same_names : List Name → List Name → Bool
same_names [] [] = true
same_names [] (n ∷ ns) = false
same_names (m ∷ ms) [] = false
same_names (m ∷ ms) (n ∷ ns) = same m n && same_names ms ns

-- the C++ name of the self type, in a list of none or one
unfoldable pub owner_names : List Item → Form → List Name
owner_names items form = map (λ i. (item_at items i).cxx) (self_type form)

-- the symbol of an item that is a function
unfoldable pub item_symbol : List Item → Item → List ℕ
item_symbol items x = extern_fn items x.namespace (function_in x.body)

-- two types with the same full name, or two functions with the same symbol
unfoldable pub clashes : List Item → Item → Item → Bool
clashes items x y =
    pick (is_function x.body) (pick (is_function y.body) (same (item_symbol items x) (item_symbol items y)) false)
    (pick (is_function y.body) false (same (full_name x) (full_name y)))

-- a function's Rust name, or a type's C++ name
unfoldable pub own_name : Item → Name
own_name x = pick (is_function x.body) (function_in x.body).rust x.cxx

-- the key of each item is the digest of its own name
pub record Keyed (s names items keys : List ℕ) : Type 0 where
  pub room : length items ≤ length keys
  pub key : (i : ℕ) → i < length items → get_or keys i 0 ≡ digest (own_name (item_no s names items i))
