-- The marks that a walk leaves behind, all that rules 9 to 11 ask of types and arguments: a table that has a 1 at
--   0        an argument is unfit, whatever the items are
--   1        two arguments of a function have the same name
--   2 + i    an argument `error` of a throwing function has the type that item i names
--   258 + i  an item index names item i
use Rattle.std.specs.Prelude.{List, [], ◌∷◌, map, Bool, true, false, ◌&&◌, ◌||◌, ℕ, ◌+◌, eqb, ltb, set}
use Rattle.lexical.specs.Bytes.{bytes, same}
use Rattle.format.specs.Decode.{pick}
use Rattle.format.specs.Types.{Ty, atom, named, template, pointer, str, fn, array, Ret, none, gives, Tys, nil, cons}
use Rattle.format.specs.Sheet.{Form, Argument, Function, Body, struct, enum}
use Rattle.format.specs.Sheet.{cxx_type, rust_type, function, Item}
use Rattle.syntax.specs.Items.{self_type}
use Rattle.syntax.specs.Types.{atom_number, is_indirect_template}
use Rattle.rules.specs.Rules.{twice, is_cxx_vector, is_method}
use Rattle.marks.specs.Gathering.{each}

-- the places of the table
abbrev pub places : ℕ
places = 514

abbrev pub unfit_at : ℕ
unfit_at = 0

abbrev pub repeated_at : ℕ
repeated_at = 1

abbrev pub error_at : ℕ → ℕ
error_at i = 2 + i

abbrev pub named_at : ℕ → ℕ
named_at i = 258 + i

abbrev pub mark : ℕ → List ℕ → List ℕ
mark k u = set u k 1

abbrev pub mark_if : Bool → ℕ → List ℕ → List ℕ
mark_if b k u = pick b (mark k u) u

-- ---- item indexes

abbrev pub mark_index : ℕ → List ℕ → List ℕ
mark_index i u = mark (named_at i) u

unfoldable mutual
  pub mark_ty : Ty → List ℕ → List ℕ
  mark_ty (atom a) u = u
  mark_ty (named i) u = mark_index i u
  mark_ty (template k t) u = mark_ty t u
  mark_ty (pointer k m t) u = mark_ty t u
  mark_ty str u = u
  mark_ty (fn r ts) u = mark_tys ts (mark_ret r u)
  mark_ty (array t n) u = mark_ty t u

  pub mark_ret : Ret → List ℕ → List ℕ
  mark_ret none u = u
  mark_ret (gives t) u = mark_ty t u

  pub mark_tys : Tys → List ℕ → List ℕ
  mark_tys nil u = u
  mark_tys (cons t ts) u = mark_tys ts (mark_ty t u)

unfoldable pub mark_form : Form → List ℕ → List ℕ
mark_form f u = each mark_index (self_type f) u

-- ---- arguments

-- a type that is indirect whatever the items are, and not RustString
abbrev pub is_indirect_now : Ty → Bool
is_indirect_now (atom a) = eqb (atom_number a) 14
is_indirect_now (named i) = false
is_indirect_now (template k t) = is_indirect_template k
is_indirect_now (pointer k m t) = false
is_indirect_now str = false
is_indirect_now (fn r ts) = false
is_indirect_now (array t n) = true

-- the item of a type that is a name, in a list of none or one
abbrev pub named_item : Ty → List ℕ
named_item (named i) = i ∷ []
named_item (atom a) = []
named_item (template k t) = []
named_item (pointer k m t) = []
named_item str = []
named_item (fn r ts) = []
named_item (array t n) = []

-- an argument `error` of a throwing function
abbrev pub is_error : Bool → Argument → Bool
is_error throws a = throws && same a.name (bytes "error")

-- rule 11 as far as it needs no item; method says that the function is one
unfoldable pub unfit_now : Bool → Bool → Argument → Bool
unfit_now method throws a =
    is_cxx_vector a.type || method && same a.name (bytes "self") || is_error throws a && is_indirect_now a.type

-- the item on which rule 11 depends, in a list of none or one
unfoldable pub error_item : Bool → Argument → List ℕ
error_item throws a = pick (is_error throws a) (named_item a.type) []

-- an item has one of the first 256 numbers
abbrev pub mark_error : ℕ → List ℕ → List ℕ
mark_error i u = mark_if (ltb i 256) (error_at i) u

unfoldable pub judge_argument : Bool → Bool → Argument → List ℕ → List ℕ
judge_argument method throws a u =
    each mark_error (error_item throws a) (mark_if (unfit_now method throws a) unfit_at u)

-- the item indexes of its type, and what it is
unfoldable pub mark_argument : Bool → Bool → Argument → List ℕ → List ℕ
mark_argument method throws a u = judge_argument method throws a (mark_ty a.type u)

-- one after the other, and then whether two have the same name
unfoldable pub mark_arguments : Bool → Bool → List Argument → List ℕ → List ℕ
mark_arguments method throws xs u =
    mark_if (twice same (map (λ a. a.name) xs)) repeated_at (each (mark_argument method throws) xs u)

-- ---- items

-- in the order of the fields: self type, return type, arguments
unfoldable pub mark_function : Function → List ℕ → List ℕ
mark_function f u =
    mark_arguments (is_method f.form) f.throws f.arguments (mark_ret f.return (mark_form f.form u))

unfoldable pub mark_body : Body → List ℕ → List ℕ
mark_body (struct p ts) u = each mark_ty ts u
mark_body (enum p a c) u = u
mark_body (cxx_type p) u = u
mark_body (rust_type p) u = u
mark_body (function f) u = mark_function f u

unfoldable pub mark_item : Item → List ℕ → List ℕ
mark_item x u = mark_body x.body u

abbrev pub mark_items : List Item → List ℕ → List ℕ
mark_items items u = each mark_item items u
