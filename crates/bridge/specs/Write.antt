-- bridge/write.rs: `write_forward_declarations`, then `write_functions` without its Struct and CxxFunction arms and
-- without `write_std_specializations`, then `flush`. Names are those of write.rs.
use Rattle.std.specs.Prelude.{ℕ, zero, suc, ◌+◌, ◌*◌, Bool, true, false, not, ◌&&◌, ◌||◌, List, [], ◌∷◌, ◌++◌, map}
use Rattle.std.specs.Prelude.{length, replicate, ◌==◌}
use Rattle.lexical.specs.Bytes.{bytes, same}
use Rattle.lexical.specs.Decimal.{pick_text}
use Rattle.format.specs.Limits.{most_namespaces}
use Rattle.format.specs.Decode.{pick}
use Rattle.format.specs.declared.Template.{Template}
use Rattle.format.specs.declared.Template.TheVariants.{RustBox, RustVec, UniquePtr, SharedPtr, WeakPtr, CxxVector}
use Rattle.format.specs.declared.Pointer.{Pointer}
use Rattle.format.specs.declared.Pointer.TheVariants.{Ref, Ptr, SliceRef}
use Rattle.format.specs.Types.{Ty, atom, named, template, pointer, fn, array, Ret, none, gives}
use Rattle.format.specs.Sheet.{Name, Form, free, const_method, mut_method, associated, Argument, Function, Body, struct}
use Rattle.format.specs.Sheet.{enum, cxx_type, rust_type, function, Item, Sheet}
use Rattle.syntax.specs.Items.{item_at, full_name, self_type}
use Rattle.syntax.specs.Mangle.{extern_fn, operator}
use Rattle.syntax.specs.Types.{needs_indirect_abi, is_rust_string}
use Rattle.rules.specs.Rules.{gather, is_method}
use Rattle.bridge.specs.Block.{extern_c}
use Rattle.bridge.specs.Out.{Content, new, next_section, begin_block, end_block, set_namespace, write, flush}
use Rattle.bridge.specs.Nested.{filter, direct_content, nested_content, nested_names}
use Rattle.bridge.specs.WriteType.{write_atom, const_unless, space_after_type, write_type, write_type_space}
use Rattle.bridge.specs.WriteType.{write_return_type}

-- ---- forward declarations

abbrev pub needs_forward_declaration : Body → Bool
needs_forward_declaration (struct p ts) = true
needs_forward_declaration (enum p a cxx) = not cxx
needs_forward_declaration (cxx_type p) = true
needs_forward_declaration (rust_type p) = true
needs_forward_declaration (function f) = false

-- `write_struct_decl`, `write_enum_decl` and `write_struct_using`
abbrev pub forward_line : Item → Body → List ℕ
forward_line x (struct p ts) = bytes "struct " ++ x.cxx ++ bytes ";\n"
forward_line x (enum p a cxx) = bytes "enum class " ++ x.cxx ++ bytes " : " ++ write_atom a ++ bytes ";\n"
forward_line x (cxx_type p) = bytes "using " ++ x.cxx ++ bytes " = " ++ full_name x ++ bytes ";\n"
forward_line x (rust_type p) = bytes "struct " ++ x.cxx ++ bytes ";\n"
forward_line x (function f) = []

abbrev pub indent : ℕ → List ℕ
indent depth = replicate (2 * depth) 32

-- the own entries of a level
unfoldable pub write_direct : ℕ → List Item → List ℕ
write_direct depth apis = gather (λ x. indent depth ++ forward_line x x.body) (direct_content depth apis)

-- the inner `write`, at a depth below which so many levels are left
unfoldable pub write_entries : ℕ → ℕ → List Item → List ℕ
write_entries zero depth apis = write_direct depth apis
write_entries (suc levels) depth apis =
    write_direct depth apis
    ++ gather
    (λ name. indent depth ++ bytes "namespace " ++ name ++ bytes " {\n"
    ++ write_entries levels (depth + 1) (nested_content depth name apis) ++ indent depth ++ bytes "}\n")
    (nested_names depth apis)

unfoldable pub forward_declarations : List Item → List ℕ
forward_declarations items = write_entries most_namespaces 0 (filter (λ x. needs_forward_declaration x.body) items)

-- ---- declarations

-- `needs_comma`: a comma before each but the first
unfoldable pub commas : Bool → List (List ℕ) → List ℕ
commas needs_comma [] = []
commas needs_comma (s ∷ ss) = pick_text needs_comma (bytes ", ") [] ++ s ++ commas true ss

unfoldable pub indirect_return : List Item → Function → Ret → Bool
indirect_return items f none = false
indirect_return items f (gives t) = f.throws || needs_indirect_abi items t

-- the pointer that stands for a reference to the inner type
abbrev pub write_pointer : List Item → Bool → Ty → List ℕ
write_pointer items mutable t = write_type_space items t ++ const_unless mutable (bytes "const ") ++ bytes "*"

-- the types that a call treats in a way of their own
pub data Shape : Type 0 where
  rust_box : Ty → Shape
  unique_ptr : Ty → Shape
  ref : Bool → Ty → Shape  -- the Bool: mutable
  str : Shape
  slice_ref : Shape
  other : Shape

abbrev pub template_shape : Template → Ty → Shape
template_shape RustBox t = rust_box t
template_shape UniquePtr t = unique_ptr t
template_shape RustVec t = other
template_shape SharedPtr t = other
template_shape WeakPtr t = other
template_shape CxxVector t = other

abbrev pub pointer_shape : Pointer → Bool → Ty → Shape
pointer_shape Ref m t = ref m t
pointer_shape Ptr m t = other
pointer_shape SliceRef m t = slice_ref

abbrev pub shape : Ty → Shape
shape (template k t) = template_shape k t
shape (pointer k m t) = pointer_shape k m t
shape Ty.str = str
shape (atom a) = other
shape (named i) = other
shape (fn r ts) = other
shape (array t n) = other

-- `write_extern_return_type_space` where the return is not indirect
abbrev pub direct_return : List Item → Ty → Shape → List ℕ
direct_return items t (rust_box inner) = write_pointer items true inner
direct_return items t (unique_ptr inner) = write_pointer items true inner
direct_return items t (ref mutable inner) = write_pointer items mutable inner
direct_return items t str = bytes "::rust::repr::Fat "
direct_return items t slice_ref = bytes "::rust::repr::Fat "
direct_return items t other = write_type_space items t

abbrev pub direct_return_of : List Item → Ret → List ℕ
direct_return_of items none = bytes "void "
direct_return_of items (gives t) = direct_return items t (shape t)

unfoldable pub extern_return : List Item → Function → List ℕ
extern_return items f =
    pick_text f.throws (bytes "::rust::repr::PtrLen ")
    (pick_text (indirect_return items f f.return) (bytes "void ") (direct_return_of items f.return))

-- `write_extern_arg` without the name; a sheet has no CxxVector argument
abbrev pub extern_arg_type : List Item → Ty → Shape → List ℕ
extern_arg_type items t (rust_box inner) = write_pointer items true inner
extern_arg_type items t (unique_ptr inner) = write_pointer items true inner
extern_arg_type items t (ref mutable inner) = write_type_space items t
extern_arg_type items t str = write_type_space items t
extern_arg_type items t slice_ref = write_type_space items t
extern_arg_type items t other = write_type_space items t

unfoldable pub extern_arg : List Item → Argument → List ℕ
extern_arg items a =
    extern_arg_type items a.type (shape a.type) ++ pick_text (needs_indirect_abi items a.type) (bytes "*") []
    ++ a.name

-- the receiver's parameter, in a list of none or one
abbrev pub receiver : List Item → Form → List (List ℕ)
receiver items free = []
receiver items (const_method i) = (full_name (item_at items i) ++ bytes " const" ++ bytes " &self") ∷ []
receiver items (mut_method i) = (full_name (item_at items i) ++ bytes " &self") ∷ []
receiver items (associated i) = []

-- what the return slot holds: for a reference a pointer
abbrev pub slot_type : List Item → Ty → Shape → List ℕ
slot_type items t (ref mutable inner) = write_pointer items mutable inner
slot_type items t (rust_box inner) = write_type items t
slot_type items t (unique_ptr inner) = write_type items t
slot_type items t str = write_type items t
slot_type items t slice_ref = write_type items t
slot_type items t other = write_type items t

-- the type that is returned, where the test holds, in a list of none or one
abbrev pub returned_if : Bool → Ret → List Ty
returned_if test none = []
returned_if test (gives t) = pick test (t ∷ []) []

-- the type of the return slot
unfoldable pub slot : List Item → Function → List Ty
slot items f = returned_if (indirect_return items f f.return) f.return

-- the parameters of the declaration
unfoldable pub extern_parameters : List Item → Function → List (List ℕ)
extern_parameters items f =
    receiver items f.form ++ map (extern_arg items) f.arguments
    ++ map (λ t. slot_type items t (shape t) ++ space_after_type t ++ bytes "*return$") (slot items f)

-- `write_rust_function_decl_impl`
unfoldable pub function_decl : List Item → Item → Function → List ℕ
function_decl items x f =
    extern_return items f ++ extern_fn items x.namespace f ++ bytes "(" ++ commas false (extern_parameters items f)
    ++ bytes ") noexcept;\n"

unfoldable pub write_rust_function_decl : List Item → Item → Function → Content → Content
write_rust_function_decl items x f c =
    end_block extern_c
    (write (function_decl items x f) (next_section (begin_block extern_c (set_namespace x.namespace c))))

unfoldable pub layout_decl : Item → List ℕ → List ℕ
layout_decl x name = bytes "::std::size_t " ++ operator x name ++ bytes "() noexcept;\n"

unfoldable pub write_opaque_type_layout_decls : Item → Content → Content
write_opaque_type_layout_decls x c =
    end_block extern_c
    (write (layout_decl x (bytes "alignof"))
    (write (layout_decl x (bytes "sizeof")) (begin_block extern_c (set_namespace x.namespace c))))

-- ---- definitions

unfoldable pub layout_definition : Item → List ℕ → List ℕ → List ℕ
layout_definition x member name =
    bytes "::std::size_t " ++ x.cxx ++ bytes "::layout::" ++ member ++ bytes "() noexcept {\n" ++ bytes "  return "
    ++ operator x name ++ bytes "();\n" ++ bytes "}\n"

-- a header has no layout
unfoldable pub write_opaque_type_layout : Bool → Item → Content → Content
write_opaque_type_layout header x c =
    pick header c
    (write (layout_definition x (bytes "align") (bytes "alignof"))
    (next_section
    (write (layout_definition x (bytes "size") (bytes "sizeof")) (next_section (set_namespace x.namespace c)))))

-- `write_doc`: "Doxygen's extra `///`" follows exactly one line
unfoldable pub write_doc : Bool → List (List ℕ) → List ℕ
write_doc doxygen lines =
    gather (λ line. pick_text doxygen (bytes "///") (bytes "//") ++ line ++ bytes "\n") lines
    ++ pick_text (doxygen && length lines == 1) (bytes "///\n") []

abbrev pub is_root : List Name → Bool
is_root [] = true
is_root (n ∷ ns) = false

abbrev pub is_free : Form → Bool
is_free free = true
is_free (const_method i) = false
is_free (mut_method i) = false
is_free (associated i) = false

abbrev pub is_const : Form → Bool
is_const free = false
is_const (const_method i) = true
is_const (mut_method i) = false
is_const (associated i) = false

abbrev pub is_none : Ret → Bool
is_none none = true
is_none (gives t) = false

unfoldable pub is_cxx_main : Item → Function → Bool
is_cxx_main x f =
    same x.cxx (bytes "main") && is_root x.namespace && is_free f.form && length f.arguments == 0
    && is_none f.return && not f.throws

unfoldable pub local_name : List Item → Item → Function → List ℕ
local_name items x f = gather (λ i. (item_at items i).cxx ++ bytes "::") (self_type f.form) ++ x.cxx

-- `write_rust_function_shim_decl`
unfoldable pub shim_decl : List Item → Item → Function → List ℕ
shim_decl items x f =
    pick_text (is_cxx_main x f) (bytes "int ") (write_return_type items f.return) ++ local_name items x f ++ bytes "("
    ++ commas false (map (λ a. write_type_space items a.type ++ a.name) f.arguments) ++ bytes ")"
    ++ pick_text (is_const f.form) (bytes " const") [] ++ pick_text f.throws [] (bytes " noexcept")

-- an indirect argument other than a RustString is held in a local
unfoldable pub is_held : List Item → Ty → Bool
is_held items t = not (is_rust_string t) && needs_indirect_abi items t

unfoldable pub held_local : List Item → Argument → List ℕ
held_local items a =
    pick_text (is_held items a.type)
    (bytes "  ::rust::ManuallyDrop<" ++ write_type items a.type ++ bytes "> " ++ a.name ++ bytes "$(::std::move("
    ++ a.name ++ bytes "));\n")
    []

-- what stands before the call where the return is direct
abbrev pub call_begin : List Item → Ty → Shape → List ℕ
call_begin items t (rust_box inner) = write_type items t ++ bytes "::from_raw("
call_begin items t (unique_ptr inner) = write_type items t ++ bytes "("
call_begin items t (ref mutable inner) = bytes "*"
call_begin items t str = bytes "::rust::impl<::rust::Str>::new_unchecked("
call_begin items t slice_ref = bytes "::rust::impl<" ++ write_type items t ++ bytes ">::slice("
call_begin items t other = []

abbrev pub call_end : Shape → List ℕ
call_end (rust_box inner) = bytes ")"
call_end (unique_ptr inner) = bytes ")"
call_end (ref mutable inner) = []
call_end str = bytes ")"
call_end slice_ref = bytes ")"
call_end other = []

-- the type of a direct return
unfoldable pub direct : List Item → Function → List Ty
direct items f = returned_if (not (indirect_return items f f.return)) f.return

abbrev pub operand_end : Shape → Bool → List ℕ
operand_end (rust_box inner) held = bytes ".into_raw()"
operand_end (unique_ptr inner) held = bytes ".release()"
operand_end (ref mutable inner) held = pick_text held (bytes "$.value") []
operand_end str held = pick_text held (bytes "$.value") []
operand_end slice_ref held = pick_text held (bytes "$.value") []
operand_end other held = pick_text held (bytes "$.value") []

unfoldable pub operand : List Item → Argument → List ℕ
operand items a =
    pick_text (needs_indirect_abi items a.type) (bytes "&") [] ++ a.name
    ++ operand_end (shape a.type) (is_held items a.type)

unfoldable pub operands : List Item → Function → List (List ℕ)
operands items f =
    pick (is_method f.form) (bytes "*this" ∷ []) [] ++ map (operand items) f.arguments
    ++ map (λ t. bytes "&return$.value") (slot items f)

-- the return of what the slot holds
abbrev pub slot_return : Shape → List ℕ
slot_return (ref mutable inner) = bytes "*return$.value"
slot_return (rust_box inner) = bytes "::std::move(return$.value)"
slot_return (unique_ptr inner) = bytes "::std::move(return$.value)"
slot_return str = bytes "::std::move(return$.value)"
slot_return slice_ref = bytes "::std::move(return$.value)"
slot_return other = bytes "::std::move(return$.value)"

-- `write_rust_function_shim_impl` behind the head, where it is no header
unfoldable pub shim_body : List Item → Item → Function → List ℕ
shim_body items x f =
    bytes " {\n" ++ gather (held_local items) f.arguments ++ bytes "  "
    ++ gather (λ t. bytes "::rust::MaybeUninit<" ++ slot_type items t (shape t) ++ bytes "> return$;\n" ++ bytes "  ")
    (slot items f)
    ++ gather (λ t. bytes "return " ++ call_begin items t (shape t)) (direct items f)
    ++ pick_text f.throws (bytes "::rust::repr::PtrLen error$ = ") [] ++ extern_fn items x.namespace f ++ bytes "("
    ++ commas false (operands items f) ++ bytes ")" ++ gather (λ t. call_end (shape t)) (direct items f) ++ bytes ";\n"
    ++ pick_text f.throws
    (bytes "  if (error$.ptr) {\n    throw ::rust::impl<::rust::Error>::error(error$);\n  }\n") []
    ++ gather (λ t. bytes "  return " ++ slot_return (shape t) ++ bytes ";\n") (slot items f)
    ++ bytes "}\n"

-- "A method's comment" is not written out: "Member functions already documented at their declaration"
unfoldable pub function_shim : Sheet → Item → Function → List ℕ
function_shim s x f =
    pick_text (is_free f.form) (write_doc s.doxygen f.comment) [] ++ shim_decl s.items x f
    ++ pick_text s.header (bytes ";\n") (shim_body s.items x f)

-- a header does not show methods
unfoldable pub write_rust_function_shim : Sheet → Item → Function → Content → Content
write_rust_function_shim s x f c =
    write (pick_text (s.header && not (is_free f.form)) [] (function_shim s x f)) (set_namespace x.namespace c)

-- ---- the text

-- the first pass of `write_functions`
abbrev pub declare : List Item → Item → Body → Content → Content
declare items x (struct p ts) c = c
declare items x (enum p a cxx) c = c
declare items x (cxx_type p) c = c
declare items x (rust_type p) c = write_opaque_type_layout_decls x c
declare items x (function f) c = write_rust_function_decl items x f c

-- the second pass
abbrev pub define : Sheet → Item → Body → Content → Content
define s x (struct p ts) c = c
define s x (enum p a cxx) c = c
define s x (cxx_type p) c = c
define s x (rust_type p) c = write_opaque_type_layout s.header x c
define s x (function f) c = write_rust_function_shim s x f (next_section c)

-- one item after the other
unfoldable pub for_each : (Item → Content → Content) → List Item → Content → Content
for_each one [] c = c
for_each one (x ∷ xs) c = for_each one xs (one x c)

unfoldable pub write_functions : Sheet → Content → Content
write_functions s c =
    for_each (λ x. define s x x.body) s.items
    (pick s.header c (for_each (λ x. declare s.items x x.body) s.items c))

unfoldable pub content : Sheet → Content
content s = flush (write_functions s (write (forward_declarations s.items) (next_section new)))

-- the text of a sheet
unfoldable pub text : Sheet → List ℕ
text s = (content s).text
