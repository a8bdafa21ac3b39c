-- Items by number, and their full names.
use Rattle.std.specs.Prelude.{List, [], ◌∷◌, ◌++◌, Bool, true, false, ℕ, get_or}
use Rattle.lexical.specs.Bytes.{bytes}
use Rattle.format.specs.Sheet.{Name, Form, free, const_method, mut_method, associated, Body, struct, enum, cxx_type}
use Rattle.format.specs.Sheet.{rust_type, function, Item}

-- an item that no accepted sheet names: every index of one has its entry
abbrev no_item : Item
no_item = record { namespace = []; cxx = []; body = cxx_type false }

unfoldable pub item_at : List Item → ℕ → Item
item_at items i = get_or items i no_item

-- "`::` before each namespace and before the C++ name"
unfoldable pub path : List Name → List ℕ
path [] = []
path (part ∷ parts) = bytes "::" ++ part ++ path parts

-- `to_fully_qualified`: "A full name has `::` before each namespace and before the C++ name"
unfoldable pub full_name : Item → List ℕ
full_name x = path (x.namespace ++ (x.cxx ∷ []))

-- the number of the self type's item, in a list of none or one
abbrev pub self_type : Form → List ℕ
self_type free = []
self_type (const_method i) = i ∷ []
self_type (mut_method i) = i ∷ []
self_type (associated i) = i ∷ []

abbrev pub is_function : Body → Bool
is_function (struct p ts) = false
is_function (enum p a c) = false
is_function (cxx_type p) = false
is_function (rust_type p) = false
is_function (function f) = true

abbrev pub is_struct : Body → Bool
is_struct (struct p ts) = true
is_struct (enum p a c) = false
is_struct (cxx_type p) = false
is_struct (rust_type p) = false
is_struct (function f) = false
