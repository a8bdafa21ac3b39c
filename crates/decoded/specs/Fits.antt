-- The limits that document 01's format puts on a sheet's value, with the base rule for its names; the rule of the
-- sheet's edition is `names_keep` of Names.antt.
use Rattle.std.specs.Prelude.{List, Bool, true, ◌&&◌, ℕ, suc, max, leb, ltb, length}
use Rattle.lexical.specs.Bytes.{every}
use Rattle.lexical.specs.Names.{is_name}
use Rattle.format.specs.Limits.{most_items, most_namespaces, most_fields, most_slots, most_arguments, most_lines}
use Rattle.format.specs.Limits.{longest_line, most_levels}
use Rattle.format.specs.Types.{Ty, atom, named, template, pointer, str, fn, array, Ret, none, gives, Tys, nil, cons}
use Rattle.format.specs.Sheet.{Form, free, const_method, mut_method, associated, Argument, Function, Body, struct}
use Rattle.format.specs.Sheet.{enum, cxx_type, rust_type, function, Item, Sheet}
use Rattle.format.specs.Decoding.{line_ok}

-- ---- types

-- "An outermost type has depth 1 and a type inside it one more": the depth of the deepest
unfoldable mutual
  pub depth : Ty → ℕ
  depth (atom a) = 1
  depth (named i) = 1
  depth (template k t) = suc (depth t)
  depth (pointer k m t) = suc (depth t)
  depth str = 1
  depth (fn r ts) = suc (max (depth_ret r) (depth_tys ts))
  depth (array t n) = suc (depth t)

  pub depth_ret : Ret → ℕ
  depth_ret none = 0
  depth_ret (gives t) = depth t

  pub depth_tys : Tys → ℕ
  depth_tys nil = 0
  depth_tys (cons t ts) = max (depth t) (depth_tys ts)

unfoldable pub count : Tys → ℕ
count nil = 0
count (cons t ts) = suc (count ts)

-- item indexes have their entry; 4-bit argument counts and 32-bit array lengths
unfoldable mutual
  pub parts_fit : ℕ → Ty → Bool
  parts_fit items (atom a) = true
  parts_fit items (named i) = ltb i items
  parts_fit items (template k t) = parts_fit items t
  parts_fit items (pointer k m t) = parts_fit items t
  parts_fit items str = true
  parts_fit items (fn r ts) = leb (count ts) most_slots && (parts_fit_ret items r && parts_fit_tys items ts)
  parts_fit items (array t n) = ltb n 4294967296 && parts_fit items t

  pub parts_fit_ret : ℕ → Ret → Bool
  parts_fit_ret items none = true
  parts_fit_ret items (gives t) = parts_fit items t

  pub parts_fit_tys : ℕ → Tys → Bool
  parts_fit_tys items nil = true
  parts_fit_tys items (cons t ts) = parts_fit items t && parts_fit_tys items ts

-- a type of at most so many levels, in a sheet of so many items
unfoldable pub type_fits : ℕ → ℕ → Ty → Bool
type_fits levels items t = leb (depth t) levels && parts_fit items t

-- ---- items

unfoldable pub return_fits : ℕ → Ret → Bool
return_fits items none = true
return_fits items (gives t) = type_fits most_levels items t

unfoldable pub argument_fits : ℕ → Argument → Bool
argument_fits items a = is_name a.name && type_fits most_levels items a.type

unfoldable pub form_fits : ℕ → Form → Bool
form_fits items free = true
form_fits items (const_method i) = ltb i items
form_fits items (mut_method i) = ltb i items
form_fits items (associated i) = ltb i items

unfoldable pub comment_fits : List ℕ → Bool
comment_fits cs = leb (length cs) longest_line && line_ok cs

unfoldable pub function_fits : ℕ → Function → Bool
function_fits items f =
    is_name f.rust && (form_fits items f.form && (return_fits items f.return &&
    (leb (length f.arguments) most_arguments && (every (argument_fits items) f.arguments &&
    (leb (length f.comment) most_lines && every comment_fits f.comment)))))

unfoldable pub body_fits : ℕ → Body → Bool
body_fits items (struct p ts) = leb (length ts) most_fields && every (type_fits most_levels items) ts
body_fits items (enum p a c) = true
body_fits items (cxx_type p) = true
body_fits items (rust_type p) = true
body_fits items (function f) = function_fits items f

unfoldable pub item_fits : ℕ → Item → Bool
item_fits items x =
    leb (length x.namespace) most_namespaces &&
    (every is_name x.namespace && (is_name x.cxx && body_fits items x.body))

-- ---- the sheet

unfoldable pub sheet_fits : Sheet → Bool
sheet_fits x = leb (length x.items) most_items && every (item_fits (length x.items)) x.items
