-- What a tree must keep: the name rule and the limits of document 01's grammar.
use Rattle.std.specs.Prelude.{ℕ, suc, ◌+◌, max, Bool, true, false, cond, not, ◌&&◌, ◌||◌, leb, List, [], ◌∷◌, length}
use Rattle.std.specs.Prelude.{◌==◌, nat_le, nat_lt}
use Rattle.lexical.specs.Bytes.{bytes, within, every, same, member}
use Rattle.lexical.specs.Names.{name_start, starts, reserved, is_name}
use Rattle.grammar.specs.Token.{word_char}
use Rattle.grammar.specs.Types.{Name, box, unique_ptr, CxxType, suffixed, Base, atom, str, full, template, slice}
use Rattle.grammar.specs.Types.{array, void_fn, fn, CxxTypes, nil, cons}
use Rattle.grammar.specs.Tree.{Result, void, ptr_len, fat, int, value, Parameter, named, slot, Declaration}
use Rattle.grammar.specs.Tree.{LayoutDefinition, Head, free, method, Local, held, room, Operand, receiver, direct}
use Rattle.grammar.specs.Tree.{into_raw, release, address, held_address, slot_address, CallForm, bare, error}
use Rattle.grammar.specs.Tree.{returned, dereferenced, in_from_raw, in_unique_ptr, in_new_unchecked, in_slice, Call}
use Rattle.grammar.specs.Tree.{Shim, Item, declares, defines, shim, namespace, extern_c, Body, body_end}
use Rattle.grammar.specs.Tree.{item, block, Line, struct_line, enum_line, using_line, Forward, forward_end, line}
use Rattle.grammar.specs.Tree.{bare_namespace, Text, text}

-- "There are at most 7 namespaces, 8 type levels (9 for a parameter or slot in extern "C"), 31 arguments, 15 in a Fn,
-- array lengths below 4,294,967,296, and 31 comment lines of 128 characters after the two slashes"
abbrev pub max_namespaces : ℕ
max_namespaces = 7

abbrev pub max_levels : ℕ
max_levels = 8

abbrev pub max_declared_levels : ℕ
max_declared_levels = 9

abbrev pub max_arguments : ℕ
max_arguments = 31

abbrev pub max_fn_arguments : ℕ
max_fn_arguments = 15

abbrev pub array_lengths : ℕ
array_lengths = 4294967296

abbrev pub max_comments : ℕ
max_comments = 31

abbrev pub max_comment_length : ℕ
max_comment_length = 128

abbrev pub symbol_start : ℕ → Bool
symbol_start c = name_start c || c == 36

-- an identifier of ISO C++ [lex.name], where "`$` counts as a letter"
unfoldable pub is_symbol : List ℕ → Bool
is_symbol s = starts symbol_start s && (every word_char s && not (member s reserved))

-- types

-- "A full name of several parts does not begin with `std` or `rust`."
abbrev pub of_std_or_rust : List Name → Bool
of_std_or_rust [] = false
of_std_or_rust (s ∷ []) = false
of_std_or_rust (s ∷ (t ∷ path)) = same s (bytes "std") || same s (bytes "rust")

-- the namespaces and the name
unfoldable pub full_name_ok : List Name → Bool
full_name_ok path = within 1 (suc max_namespaces) (length path) && (every is_name path && not (of_std_or_rust path))

-- "A leaf is one type level, and each template, `&` or `*` is one above its deepest inner type;
-- `void` is no type here, and a Fn with nothing but `void` in it is a leaf."
unfoldable mutual
  pub levels : CxxType → ℕ
  levels (suffixed base suffixes) = base_levels base + length suffixes

  pub base_levels : Base → ℕ
  base_levels (atom a) = 1
  base_levels str = 1
  base_levels (full path) = 1
  base_levels (template t x) = suc (levels x)
  base_levels (slice x is_const) = suc (levels x)
  base_levels (array x n) = suc (levels x)
  base_levels (void_fn xs) = suc (deepest xs)
  base_levels (fn x xs) = suc (max (levels x) (deepest xs))

  pub deepest : CxxTypes → ℕ
  deepest nil = 0
  deepest (cons x xs) = max (levels x) (deepest xs)

unfoldable pub type_count : CxxTypes → ℕ
type_count nil = 0
type_count (cons x xs) = suc (type_count xs)

unfoldable mutual
  pub parts_ok : CxxType → Bool
  parts_ok (suffixed base suffixes) = base_ok base

  pub base_ok : Base → Bool
  base_ok (atom a) = true
  base_ok str = true
  base_ok (full path) = full_name_ok path
  base_ok (template t x) = parts_ok x
  base_ok (slice x is_const) = parts_ok x
  base_ok (array x n) = nat_lt n array_lengths && parts_ok x
  base_ok (void_fn xs) = nat_le (type_count xs) max_fn_arguments && all_parts_ok xs
  base_ok (fn x xs) = nat_le (type_count xs) max_fn_arguments && (parts_ok x && all_parts_ok xs)

  pub all_parts_ok : CxxTypes → Bool
  all_parts_ok nil = true
  all_parts_ok (cons x xs) = parts_ok x && all_parts_ok xs

abbrev pub type_ok : ℕ → CxxType → Bool
type_ok limit x = nat_le (levels x) limit && parts_ok x

-- arguments

-- how many pass the test, but at most one
unfoldable pub at_most_one : {A : Type 0} → (A → Bool) → List A → ℕ
at_most_one test [] = 0
at_most_one test (x ∷ xs) = cond (test x) 1 (at_most_one test xs)

-- "31 arguments", and besides them one receiver and one slot
unfoldable pub few_arguments : {A : Type 0} → (A → Bool) → (A → Bool) → List A → Bool
few_arguments is_receiver is_slot xs =
    nat_le (length xs) (max_arguments + at_most_one is_receiver xs + at_most_one is_slot xs)

-- heads

-- "and `int` for `main` in the root"
unfoldable pub result_ok : Bool → Result → Bool
result_ok main void = true
result_ok main ptr_len = true
result_ok main fat = true
result_ok main int = main
result_ok main (value x) = type_ok max_levels x

abbrev pub is_root_main : ℕ → Head → Bool
is_root_main depth (free f) = depth == 0 && same f (bytes "main")
is_root_main depth (method t f) = false

unfoldable pub declared_ok : Parameter → Bool
declared_ok (named x name) = type_ok max_declared_levels x && is_name name
declared_ok (slot x) = type_ok max_declared_levels x

-- it may be the receiver
unfoldable pub is_self : Parameter → Bool
is_self (named x name) = same name (bytes "self")
is_self (slot x) = false

unfoldable pub is_slot : Parameter → Bool
is_slot (named x name) = false
is_slot (slot x) = true

unfoldable pub declaration_ok : ℕ → Declaration → Bool
declaration_ok depth d =
    is_symbol d.symbol && (result_ok (is_root_main depth (free d.symbol)) d.result &&
    (every declared_ok d.parameters && few_arguments is_self is_slot d.parameters))

unfoldable pub layout_ok : LayoutDefinition → Bool
layout_ok d = is_name d.owner && is_symbol d.symbol

-- shims

unfoldable pub head_ok : Head → Bool
head_ok (free f) = is_name f
head_ok (method t f) = is_name t && is_name f

unfoldable pub argument_ok : Parameter → Bool
argument_ok (named x name) = type_ok max_levels x && is_name name
argument_ok (slot x) = false

unfoldable pub local_ok : Local → Bool
local_ok (held x name) = type_ok max_levels x && is_name name
local_ok (room x) = type_ok max_levels x

unfoldable pub operand_ok : Operand → Bool
operand_ok receiver = true
operand_ok (direct x) = is_name x
operand_ok (into_raw x) = is_name x
operand_ok (release x) = is_name x
operand_ok (address x) = is_name x
operand_ok (held_address x) = is_name x
operand_ok slot_address = true

unfoldable pub is_receiver : Operand → Bool
is_receiver receiver = true
is_receiver (direct x) = false
is_receiver (into_raw x) = false
is_receiver (release x) = false
is_receiver (address x) = false
is_receiver (held_address x) = false
is_receiver slot_address = false

unfoldable pub is_slot_address : Operand → Bool
is_slot_address receiver = false
is_slot_address (direct x) = false
is_slot_address (into_raw x) = false
is_slot_address (release x) = false
is_slot_address (address x) = false
is_slot_address (held_address x) = false
is_slot_address slot_address = true

-- `::rust::Box<T>` and `::std::unique_ptr<T>` are types themselves
unfoldable pub form_ok : CallForm → Bool
form_ok bare = true
form_ok error = true
form_ok returned = true
form_ok dereferenced = true
form_ok (in_from_raw x) = type_ok max_levels (suffixed (template box x) [])
form_ok (in_unique_ptr x) = type_ok max_levels (suffixed (template unique_ptr x) [])
form_ok (in_new_unchecked x) = type_ok max_levels x
form_ok (in_slice x) = type_ok max_levels x

unfoldable pub call_ok : Call → Bool
call_ok c =
    form_ok c.form && (is_symbol c.symbol &&
    (every operand_ok c.operands && few_arguments is_receiver is_slot_address c.operands))

unfoldable pub comments_ok : List (List ℕ) → Bool
comments_ok comments = nat_le (length comments) max_comments && every (λ s. leb (length s) max_comment_length) comments

unfoldable pub shim_ok : ℕ → Shim → Bool
shim_ok depth s =
    comments_ok s.comments && (result_ok (is_root_main depth s.head) s.result && (head_ok s.head &&
    (every argument_ok s.parameters && (nat_le (length s.parameters) max_arguments &&
    (every local_ok s.locals && call_ok s.call)))))

-- the body; how many namespaces are open around, and whether an extern "C" is

-- "A body holds declarations, all inside extern "C", and outside it layout definitions and shims."
unfoldable pub item_ok : ℕ → Bool → Item → Bool
item_ok depth in_extern_c (declares d) = in_extern_c && declaration_ok depth d
item_ok depth in_extern_c (defines d) = not in_extern_c && layout_ok d
item_ok depth in_extern_c (shim s) = not in_extern_c && shim_ok depth s

unfoldable pub body_ok : ℕ → Bool → Body → Bool
body_ok depth in_extern_c body_end = true
body_ok depth in_extern_c (item i next) = item_ok depth in_extern_c i && body_ok depth in_extern_c next
body_ok depth in_extern_c (block (namespace x) inside next) =
    is_name x
    && (nat_lt depth max_namespaces && (body_ok (suc depth) in_extern_c inside && body_ok depth in_extern_c next))
body_ok depth in_extern_c (block extern_c inside next) = body_ok depth true inside && body_ok depth in_extern_c next

-- the forward part

unfoldable pub forward_line_ok : Line → Bool
forward_line_ok (struct_line x) = is_name x
forward_line_ok (enum_line x a) = is_name x
forward_line_ok (using_line x path) = is_name x && full_name_ok path

unfoldable pub forward_ok : ℕ → Forward → Bool
forward_ok depth forward_end = true
forward_ok depth (line l next) = forward_line_ok l && forward_ok depth next
forward_ok depth (bare_namespace x inside next) =
    is_name x && (nat_lt depth max_namespaces && (forward_ok (suc depth) inside && forward_ok depth next))

unfoldable pub text_ok : Text → Bool
text_ok (text forward body) = forward_ok 0 forward && body_ok 0 false body
