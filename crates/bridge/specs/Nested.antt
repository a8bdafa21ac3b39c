-- bridge/nested.rs: the items of a namespace's level. "Own entries first, then inner namespaces by first appearance".
use Rattle.std.specs.Prelude.{ℕ, Bool, true, false, List, [], ◌∷◌, ◌++◌, drop}
use Rattle.lexical.specs.Bytes.{same, member}
use Rattle.format.specs.Decode.{pick}
use Rattle.format.specs.Sheet.{Name, Item}

unfoldable pub filter : {A : Type 0} → (A → Bool) → List A → List A
filter test [] = []
filter test (x ∷ xs) = pick (test x) (x ∷ filter test xs) (filter test xs)

-- `api.namespace().iter().nth(depth)`, in a list of none or one
abbrev pub first_name : List Name → List Name
first_name [] = []
first_name (n ∷ ns) = n ∷ []

unfoldable pub nth : ℕ → Item → List Name
nth depth x = first_name (drop depth x.namespace)

abbrev pub is_empty : List Name → Bool
is_empty [] = true
is_empty (n ∷ ns) = false

abbrev pub starts_with : Name → List Name → Bool
starts_with name [] = false
starts_with name (n ∷ ns) = same name n

-- the items whose namespace ends at this depth
unfoldable pub direct_content : ℕ → List Item → List Item
direct_content depth apis = filter (λ x. is_empty (nth depth x)) apis

-- the items that lie in the inner namespace
unfoldable pub nested_content : ℕ → Name → List Item → List Item
nested_content depth name apis = filter (λ x. starts_with name (nth depth x)) apis

-- the names, each where it first appears, without those seen before
unfoldable pub distinct : List Name → List Name → List Name
distinct seen [] = []
distinct seen (n ∷ ns) = pick (member n seen) (distinct seen ns) (n ∷ distinct (n ∷ seen) ns)

unfoldable pub nth_names : ℕ → List Item → List Name
nth_names depth [] = []
nth_names depth (x ∷ xs) = nth depth x ++ nth_names depth xs

-- the inner namespaces at this depth
unfoldable pub nested_names : ℕ → List Item → List Name
nested_names depth apis = distinct [] (nth_names depth apis)
