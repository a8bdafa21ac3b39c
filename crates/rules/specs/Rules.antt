-- Rules 9 to 12 of document 01's table, on the items of a decoded sheet.
use Rattle.std.specs.Prelude.{List, [], ◌∷◌, ◌++◌, map, Bool, true, false, not, ◌&&◌, ◌||◌, ℕ, ◌+◌, length}
use Rattle.lexical.specs.Bytes.{bytes, same}
use Rattle.format.specs.Decode.{pick}
use Rattle.format.specs.declared.Template.{Template}
use Rattle.format.specs.declared.Template.TheVariants.{RustBox, RustVec, UniquePtr, SharedPtr, WeakPtr, CxxVector}
use Rattle.format.specs.Types.{Ty, atom, named, template, pointer, str, fn, array, Ret, none, gives, Tys, nil, cons}
use Rattle.format.specs.Sheet.{Name, Form, free, const_method, mut_method, associated, Argument, Function, Body, struct}
use Rattle.format.specs.Sheet.{enum, cxx_type, rust_type, function, Item}
use Rattle.syntax.specs.Items.{item_at, full_name, self_type, is_function, is_struct}
use Rattle.syntax.specs.Mangle.{extern_fn}
use Rattle.syntax.specs.Types.{needs_indirect_abi, is_rust_string}
use Rattle.toposort.specs.Graph.{Graph, Ring}
use Rattle.toposort.specs.Sort.{ringed}

-- ---- lists

unfoldable pub any : {A : Type 0} → (A → Bool) → List A → Bool
any test [] = false
any test (x ∷ xs) = test x || any test xs

-- two entries at different places are equal
unfoldable pub twice : {A : Type 0} → (A → A → Bool) → List A → Bool
twice equal [] = false
twice equal (x ∷ xs) = any (equal x) xs || twice equal xs

unfoldable pub gather : {A B : Type 0} → (A → List B) → List A → List B
gather f [] = []
gather f (x ∷ xs) = f x ++ gather f xs

abbrev pub function_of : Body → List Function
function_of (struct p ts) = []
function_of (enum p a c) = []
function_of (cxx_type p) = []
function_of (rust_type p) = []
function_of (function f) = f ∷ []

-- the functions of a sheet, in its order
abbrev pub functions : List Item → List Function
functions items = gather (λ x. function_of x.body) items

-- ---- 9: an item index names a function

-- some type inside, itself included, is named by an item that passes the test
unfoldable mutual
  pub any_named : (ℕ → Bool) → Ty → Bool
  any_named test (atom a) = false
  any_named test (named i) = test i
  any_named test (template k t) = any_named test t
  any_named test (pointer k m t) = any_named test t
  any_named test str = false
  any_named test (fn r ts) = any_named_ret test r || any_named_tys test ts
  any_named test (array t n) = any_named test t

  pub any_named_ret : (ℕ → Bool) → Ret → Bool
  any_named_ret test none = false
  any_named_ret test (gives t) = any_named test t

  pub any_named_tys : (ℕ → Bool) → Tys → Bool
  any_named_tys test nil = false
  any_named_tys test (cons t ts) = any_named test t || any_named_tys test ts

-- some item index of the body passes the test
abbrev pub any_index : (ℕ → Bool) → Body → Bool
any_index test (struct p ts) = any (any_named test) ts
any_index test (enum p a c) = false
any_index test (cxx_type p) = false
any_index test (rust_type p) = false
any_index test (function f) =
    any test (self_type f.form) || any_named_ret test f.return || any (λ x. any_named test x.type) f.arguments

unfoldable pub wrong_part : List Item → Bool
wrong_part items = any (λ x. any_index (λ i. is_function (item_at items i).body) x.body) items

-- ---- 10: taken

-- "an item's first namespace is `std` or `rust`"
abbrev pub reserved_namespace : List Name → Bool
reserved_namespace [] = false
reserved_namespace (n ∷ ns) = same n (bytes "std") || same n (bytes "rust")

-- the full name of a type
abbrev pub type_name : Item → List (List ℕ)
type_name x = pick (is_function x.body) [] (full_name x ∷ [])

abbrev pub symbol : List Item → Item → List (List ℕ)
symbol items x = map (extern_fn items x.namespace) (function_of x.body)

abbrev pub argument_names : Function → List Name
argument_names f = map (λ a. a.name) f.arguments

-- "two types with the same full name; two functions with the same symbol; two equal argument names in a function"
unfoldable pub taken : List Item → Bool
taken items =
    any (λ x. reserved_namespace x.namespace) items || twice same (gather type_name items)
    || twice same (gather (symbol items) items)
    || any (λ f. twice same (argument_names f)) (functions items)

-- ---- 11: unfit argument

abbrev pub is_cxx_vector_template : Template → Bool
is_cxx_vector_template CxxVector = true
is_cxx_vector_template RustBox = false
is_cxx_vector_template RustVec = false
is_cxx_vector_template UniquePtr = false
is_cxx_vector_template SharedPtr = false
is_cxx_vector_template WeakPtr = false

abbrev pub is_cxx_vector : Ty → Bool
is_cxx_vector (template k t) = is_cxx_vector_template k
is_cxx_vector (atom a) = false
is_cxx_vector (named i) = false
is_cxx_vector (pointer k m t) = false
is_cxx_vector str = false
is_cxx_vector (fn r ts) = false
is_cxx_vector (array t n) = false

abbrev pub is_method : Form → Bool
is_method free = false
is_method (const_method i) = true
is_method (mut_method i) = true
is_method (associated i) = false

-- "kind 10 as argument; `self` in a method; `error` in a throwing function, if its type is indirect and not RustString"
unfoldable pub unfit : List Item → Function → Argument → Bool
unfit items f a =
    is_cxx_vector a.type || is_method f.form && same a.name (bytes "self")
    || f.throws && same a.name (bytes "error") && needs_indirect_abi items a.type && not (is_rust_string a.type)

unfoldable pub unfit_argument : List Item → Bool
unfit_argument items = any (λ f. any (unfit items f) f.arguments) (functions items)

-- ---- 12: ring

-- the struct that a field holds by its name
abbrev pub held_by : List Item → Ty → List ℕ
held_by items (named i) = pick (is_struct (item_at items i).body) (i ∷ []) []
held_by items (atom a) = []
held_by items (template k t) = []
held_by items (pointer k m t) = []
held_by items str = []
held_by items (fn r ts) = []
held_by items (array t n) = []

abbrev pub fields_of : Body → List Ty
fields_of (struct p ts) = ts
fields_of (enum p a c) = []
fields_of (cxx_type p) = []
fields_of (rust_type p) = []
fields_of (function f) = []

-- the structs that item i holds by named fields, in the order of its fields
unfoldable pub held_structs : List Item → Graph
held_structs items i = gather (held_by items) (fields_of (item_at items i).body)

-- the numbers of the structs, counted from n
unfoldable pub structs_from : ℕ → List Item → List ℕ
structs_from n [] = []
structs_from n (x ∷ xs) = pick (is_struct x.body) (n ∷ []) [] ++ structs_from (n + 1) xs

abbrev pub structs : List Item → List ℕ
structs items = structs_from 0 items

-- "a struct holds itself by named fields, over any number of structs"
abbrev pub RingOf : List Item → Type 0
RingOf items = Ring (held_structs items) (structs items)

-- the same as a test: theorem `ring_rule` shows that it is RingOf
unfoldable pub ring : List Item → Bool
ring items = ringed (held_structs items) (length items) (structs items)
