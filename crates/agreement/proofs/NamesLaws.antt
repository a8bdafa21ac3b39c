-- The names of a reading are names by the grammar's own rule.
use mathlib.Core.Path.{◌≡◌, refl}
use mathlib.Core.List.{List, [], ◌∷◌, ◌++◌}
use mathlib.Core.Bool.{Bool, true, false, ◌&&◌, not, false≢true}
use Prim.Native.Nat.{ℕ, suc}
use lib.Dec.{leb, ltb}
use lib.ListN.{length}
use Rattle.lexical.specs.Bytes.{within, every}
use Rattle.lexical.specs.Names.{is_name}
use Rattle.lexical.proofs.BoolLaws.{both}
use Rattle.lexical.proofs.ByteLaws.{each_true, every_append}
use Rattle.rules.specs.Rules.{gather}
use Rattle.rules.proofs.EveryLaws.{every_gather}
use Rattle.grammar.specs.Types.{Name, box, unique_ptr, CxxType, suffixed, Base, atom, str, full, template, slice, array}
use Rattle.grammar.specs.Types.{void_fn, fn, CxxTypes, nil, cons}
use Rattle.grammar.specs.Tree.{Result, void, ptr_len, fat, int, value, Parameter, named, slot, Declaration}
use Rattle.grammar.specs.Tree.{LayoutDefinition, Head, free, method, Local, held, room, Operand, receiver, direct}
use Rattle.grammar.specs.Tree.{into_raw, release, address, held_address, slot_address, CallForm, bare, error, returned}
use Rattle.grammar.specs.Tree.{dereferenced, in_from_raw, in_unique_ptr, in_new_unchecked, in_slice, Call, Shim, Item}
use Rattle.grammar.specs.Tree.{declares, defines, shim, namespace, extern_c, Body, body_end, item, block, Line}
use Rattle.grammar.specs.Tree.{struct_line, enum_line, using_line, Forward, forward_end, line, bare_namespace, Text, text}
use Rattle.grammar.specs.Rules.{max_namespaces, max_levels, max_declared_levels, max_arguments, max_fn_arguments, array_lengths}
use Rattle.grammar.specs.Rules.{is_symbol, full_name_ok, levels, type_count, parts_ok, base_ok, all_parts_ok, type_ok, result_ok}
use Rattle.grammar.specs.Rules.{is_root_main, declared_ok, declaration_ok, layout_ok, head_ok, argument_ok, local_ok, operand_ok}
use Rattle.grammar.specs.Rules.{form_ok, call_ok, comments_ok, shim_ok, item_ok, body_ok, forward_line_ok, forward_ok, text_ok}
use Rattle.grammar.specs.Reading.{Reading}
use Rattle.agreement.specs.Agreement.{head_parts}
use Rattle.agreement.specs.Names.{names_of_type, names_of_base, names_of_types, names_of_result, names_of_parameter}
use Rattle.agreement.specs.Names.{names_of_declaration, names_of_layout, names_of_local, names_of_operand, names_of_form}
use Rattle.agreement.specs.Names.{names_of_call, names_of_shim, names_of_item, names_of_body, names_of_line}
use Rattle.agreement.specs.Names.{names_of_forward, names_of, ReadingUnder}

record Named (names : List Name) : Type 0 where
  is : every is_name names ≡ true

none : Named []
unfolding every
none = record { is = refl }

one : (x : Name) → is_name x ≡ true → Named (x ∷ [])
unfolding every
one x h = record { is = rw h }

join : {a b : List Name} → Named a → Named b → Named (a ++ b)
join p q = record { is = every_append is_name _ _ p.is q.is }

-- two rules, each for the names of one part
parts : (a b : Bool) {xs ys : List Name} → (a && b) ≡ true → (a ≡ true → Named xs) → (b ≡ true → Named ys) →
    Named (xs ++ ys)
parts a b h left right = let q = both a b h in join (left q.0) (right q.1)

gather_names : {A : Type 0} (ok : A → Bool) (names : A → List Name) → ((x : A) → ok x ≡ true → Named (names x)) →
    (xs : List A) → every ok xs ≡ true → Named (gather names xs)
gather_names ok names each xs h =
    record { is = every_gather (λ x. ok x ≡ true) is_name names (λ x e. (each x e).is) xs (each_true ok xs h) }

path_names : (path : List Name) → full_name_ok path ≡ true → Named path
unfolding full_name_ok
path_names path h =
    let q = both (within 1 (suc max_namespaces) (length path)) _ h in
    record { is = (both (every is_name path) _ q.1).0 }

-- ---- types

mutual
  unfolding names_of_type parts_ok

  type_names : (x : CxxType) → parts_ok x ≡ true → Named (names_of_type x)
  type_names (suffixed base suffixes) h = base_names base h

  base_names : (b : Base) → base_ok b ≡ true → Named (names_of_base b)
  base_names (atom a) h = none
  base_names str h = none
  base_names (full path) h = path_names path h
  base_names (template t x) h = type_names x h
  base_names (slice x is_const) h = type_names x h
  base_names (array x n) h = type_names x (both (ltb n array_lengths) _ h).1
  base_names (void_fn xs) h = types_names xs (both (leb (type_count xs) max_fn_arguments) _ h).1
  base_names (fn x xs) h =
      let q = both (leb (type_count xs) max_fn_arguments) _ h in
      parts (parts_ok x) _ q.1 (λ e. type_names x e) (λ e. types_names xs e)

  types_names : (xs : CxxTypes) → all_parts_ok xs ≡ true → Named (names_of_types xs)
  types_names nil h = none
  types_names (cons x xs) h = parts (parts_ok x) _ h (λ e. type_names x e) (λ e. types_names xs e)

ok_names : (limit : ℕ) (x : CxxType) → type_ok limit x ≡ true → Named (names_of_type x)
ok_names limit x h = type_names x (both (leb (levels x) limit) _ h).1

-- a type and a name behind it
name_behind : (limit : ℕ) (x : CxxType) (name : Name) → (type_ok limit x && is_name name) ≡ true →
    Named (names_of_type x ++ (name ∷ []))
name_behind limit x name h = parts (type_ok limit x) _ h (ok_names limit x) (one name)

-- ---- declarations and layouts

result_names : (main : Bool) (r : Result) → result_ok main r ≡ true → Named (names_of_result r)
unfolding result_ok
result_names main void h = none
result_names main ptr_len h = none
result_names main fat h = none
result_names main int h = none
result_names main (value x) h = ok_names max_levels x h

declared_names : (p : Parameter) → declared_ok p ≡ true → Named (names_of_parameter p)
unfolding declared_ok
declared_names (named x name) h = name_behind max_declared_levels x name h
declared_names (slot x) h = ok_names max_declared_levels x h

declaration_names : (depth : ℕ) (d : Declaration) → declaration_ok depth d ≡ true → Named (names_of_declaration d)
unfolding names_of_declaration declaration_ok
declaration_names depth d h =
    parts (result_ok (is_root_main depth (free d.symbol)) d.result) _ (both (is_symbol d.symbol) _ h).1
    (result_names _ d.result)
    (λ e. gather_names declared_ok _ declared_names d.parameters (both (every declared_ok d.parameters) _ e).0)

layout_names : (d : LayoutDefinition) → layout_ok d ≡ true → Named (names_of_layout d)
unfolding layout_ok
layout_names d h = one d.owner (both (is_name d.owner) _ h).0

-- ---- shims

head_names_lem : (head : Head) → head_ok head ≡ true → Named (head_parts head)
unfolding head_ok
head_names_lem (free f) h = one f h
head_names_lem (method t f) h = parts (is_name t) _ h (one t) (one f)

argument_names_lem : (p : Parameter) → argument_ok p ≡ true → Named (names_of_parameter p)
unfolding argument_ok
argument_names_lem (named x name) h = name_behind max_levels x name h
argument_names_lem (slot x) h = absurd (false≢true h)

local_names : (l : Local) → local_ok l ≡ true → Named (names_of_local l)
unfolding local_ok
local_names (held x name) h = name_behind max_levels x name h
local_names (room x) h = ok_names max_levels x h

operand_names : (o : Operand) → operand_ok o ≡ true → Named (names_of_operand o)
unfolding operand_ok
operand_names receiver h = none
operand_names (direct x) h = one x h
operand_names (into_raw x) h = one x h
operand_names (release x) h = one x h
operand_names (address x) h = one x h
operand_names (held_address x) h = one x h
operand_names slot_address h = none

form_names : (c : CallForm) → form_ok c ≡ true → Named (names_of_form c)
unfolding names_of_type form_ok
form_names bare h = none
form_names error h = none
form_names returned h = none
form_names dereferenced h = none
form_names (in_from_raw x) h = ok_names max_levels (suffixed (template box x) []) h
form_names (in_unique_ptr x) h = ok_names max_levels (suffixed (template unique_ptr x) []) h
form_names (in_new_unchecked x) h = ok_names max_levels x h
form_names (in_slice x) h = ok_names max_levels x h

call_names : (c : Call) → call_ok c ≡ true → Named (names_of_call c)
unfolding names_of_call call_ok
call_names c h =
    parts (form_ok c.form) _ h (form_names c.form)
    (λ e. gather_names operand_ok _ operand_names c.operands
    (both (every operand_ok c.operands) _ (both (is_symbol c.symbol) _ e).1).0)

shim_names : (depth : ℕ) (s : Shim) → shim_ok depth s ≡ true → Named (names_of_shim s)
unfolding names_of_shim shim_ok
shim_names depth s h =
    let p = both (result_ok (is_root_main depth s.head) s.result) _ (both (comments_ok s.comments) _ h).1 in
    let q = both (head_ok s.head) _ p.1 in
    let r = both (every argument_ok s.parameters) _ q.1 in
    let l = both (every local_ok s.locals) _ (both (leb (length s.parameters) max_arguments) _ r.1).1 in
    let head = join (result_names _ s.result p.0) (head_names_lem s.head q.0) in
    let parameters = gather_names argument_ok names_of_parameter argument_names_lem s.parameters r.0 in
    let locals = gather_names local_ok names_of_local local_names s.locals l.0 in
    join (join (join head parameters) locals) (call_names s.call l.1)

-- ---- the body

item_names_lem : (depth : ℕ) (in_extern_c : Bool) (i : Item) → item_ok depth in_extern_c i ≡ true → Named (names_of_item i)
unfolding item_ok
item_names_lem depth in_extern_c (declares d) h = declaration_names depth d (both in_extern_c _ h).1
item_names_lem depth in_extern_c (defines d) h = layout_names d (both (not in_extern_c) _ h).1
item_names_lem depth in_extern_c (shim s) h = shim_names depth s (both (not in_extern_c) _ h).1

body_names_lem : (depth : ℕ) (in_extern_c : Bool) (b : Body) → body_ok depth in_extern_c b ≡ true → Named (names_of_body b)
unfolding names_of_body body_ok
body_names_lem depth in_extern_c body_end h = none
body_names_lem depth in_extern_c (item i next) h =
    parts (item_ok depth in_extern_c i) _ h (item_names_lem depth in_extern_c i) (body_names_lem depth in_extern_c next)
body_names_lem depth in_extern_c (block (namespace x) inside next) h =
    parts (is_name x) _ h (one x)
    (λ e. parts (body_ok (suc depth) in_extern_c inside) _ (both (ltb depth max_namespaces) _ e).1
    (body_names_lem (suc depth) in_extern_c inside) (body_names_lem depth in_extern_c next))
body_names_lem depth in_extern_c (block extern_c inside next) h =
    parts (body_ok depth true inside) _ h (body_names_lem depth true inside) (body_names_lem depth in_extern_c next)

-- ---- the forward part

line_names : (l : Line) → forward_line_ok l ≡ true → Named (names_of_line l)
unfolding forward_line_ok
line_names (struct_line x) h = one x h
line_names (enum_line x a) h = one x h
line_names (using_line x path) h = parts (is_name x) _ h (one x) (path_names path)

forward_names : (depth : ℕ) (f : Forward) → forward_ok depth f ≡ true → Named (names_of_forward f)
unfolding names_of_forward forward_ok
forward_names depth forward_end h = none
forward_names depth (line l next) h = parts (forward_line_ok l) _ h (line_names l) (forward_names depth next)
forward_names depth (bare_namespace x inside next) h =
    parts (is_name x) _ h (one x)
    (λ e. parts (forward_ok (suc depth) inside) _ (both (ltb depth max_namespaces) _ e).1
    (forward_names (suc depth) inside) (forward_names depth next))

pub names_of_text : (t : Text) → text_ok t ≡ true → every is_name (names_of t) ≡ true
unfolding names_of text_ok
names_of_text (text forward body) h =
    (parts (forward_ok 0 forward) _ h (forward_names 0 forward) (body_names_lem 0 false body)).is

-- the grammar is the grammar under its own rule
pub names_of_reading : (t : Text) (bytes : List ℕ) → Reading t bytes → ReadingUnder is_name t bytes
names_of_reading t bytes r = record { reads = r; names = names_of_text t r.keeps_rules }
