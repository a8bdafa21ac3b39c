-- Declarations and layout definitions are spelled as their trees' tokens.
use Rattle.std.proofs.Common.{◌≡◌, ℕ, Bool, true, false, not, List, [], ◌++◌, length, sym, refl, append_assoc}
use Rattle.lexical.specs.Bytes.{bytes, every}
use Rattle.lexical.specs.Decimal.{pick_text}
use Rattle.lexical.proofs.ByteLaws.{Each}
use Rattle.format.specs.Decode.{pick}
use Rattle.format.specs.declared.Template.TheVariants.{RustBox, UniquePtr}
use Rattle.format.specs.declared.Pointer.TheVariants.{Ref, SliceRef}
use Rattle.format.specs.Types.{Ty, template, pointer, str, Ret, none, gives}
use Rattle.format.specs.Sheet.{Form, free, const_method, mut_method, associated, Argument, Function, Item}
use Rattle.syntax.specs.Items.{item_at}
use Rattle.syntax.specs.Types.{needs_indirect_abi}
use Rattle.decoded.specs.Fits.{parts_fit, type_fits, return_fits, argument_fits, form_fits}
use Rattle.decoded.proofs.Decoded.{fits_parts}
use Rattle.decoded.proofs.Kept.{argument_name, argument_type, ItemKept, FunctionKept}
use Rattle.bridge.specs.WriteType.{const_unless, space_after_type, write_type_space}
use Rattle.bridge.specs.Write.{indirect_return, write_pointer, Shape, shape, direct_return, direct_return_of, extern_return}
use Rattle.bridge.specs.Write.{extern_arg_type, extern_arg, receiver, slot_type, returned_if, slot, extern_parameters}
use Rattle.bridge.specs.Write.{function_decl, layout_decl, layout_definition}
use Rattle.grammar.specs.Token.{quoted}
use Rattle.grammar.specs.Types as Cxx
use Rattle.grammar.specs.Types.{CxxType}
use Rattle.grammar.specs.Tree as Tree
use Rattle.grammar.specs.Tree.{Measure}
use Rattle.grammar.specs.Tokens.{measure_tokens, type_tokens, result_tokens, parameter_tokens, declaration_tokens}
use Rattle.grammar.specs.Tokens.{layout_tokens}
use Rattle.spelling.proofs.Suffixes.{suffix_tokens_lem}
use Rattle.spelling.specs.TypeTree.{pointer_to, cxx_type}
use Rattle.spelling.specs.DeclarationTree.{direct_result, direct_result_of, declared_result, declared_receiver}
use Rattle.spelling.specs.DeclarationTree.{declared_type, declared_argument, slot_tree, declared_slot}
use Rattle.spelling.specs.DeclarationTree.{declared_parameters, declaration_of, layout_declaration_of, measure_name}
use Rattle.spelling.specs.DeclarationTree.{operator_name, layout_definition_of}
use Rattle.spelling.proofs.Spells.{closed, inside, Spells, ◌▷◌, ◌▷⟨◌⟩◌, as_tokens, empty, lit, name_spells}
use Rattle.spelling.proofs.Lists.{SpellsEach, none, more, each_append, list_spells, map_spells}
use Rattle.spelling.proofs.TypeSpelling.{pointer_end_spells, suffix_spells, item_kept_lem, full_name_spells}
use Rattle.spelling.proofs.TypeSpelling.{type_space_spells}
use Rattle.spelling.proofs.Shapes.{Shaped, is_box, is_unique_ptr, is_ref, is_str, is_slice, is_other, shaped}
use Rattle.spelling.proofs.Symbols.{extern_fn_spells, operator_spells}

-- a return's type fits, in a list of none or one
pub slot_fits : (items : ℕ) (b : Bool) (r : Ret) → return_fits items r ≡ true →
    every (type_fits 8 items) (returned_if b r) ≡ true
unfolding every return_fits
slot_fits items b none h = refl
slot_fits items true (gives t) h = rw h
slot_fits items false (gives t) h = refl

-- one more `*` where the test holds
star_spells : (b : Bool) {s : List ℕ} (x : CxxType) → Spells closed s (type_tokens x) →
    Spells closed (s ++ pick_text b (bytes "*") []) (type_tokens (pick b (pointer_to true x) x))
star_spells true x p = suffix_spells (Cxx.pointer false) x p (lit "*" refl)
star_spells false x p = p ▷ empty

module _ (items : List Item) (kept : Each (ItemKept items) items) where
  pub pointer_spells : (mutable : Bool) (t : Ty) → parts_fit (length items) t ≡ true →
      Spells closed (write_pointer items mutable t) (type_tokens (pointer_to mutable (cxx_type items t)))
  pointer_spells mutable t h =
      rw (append_assoc (write_type_space items t) (const_unless mutable (bytes "const ")) (bytes "*"))
      (suffix_spells (Cxx.pointer (not mutable)) (cxx_type items t) (type_space_spells items kept t h)
      (pointer_end_spells mutable))

  -- ---- results

  direct_return_spells : {t : Ty} {k : Shape} → Shaped t k → parts_fit (length items) t ≡ true →
      Spells closed (direct_return items t k) (result_tokens (direct_result items t k))
  unfolding parts_fit
  direct_return_spells (is_box t) h = pointer_spells true t h
  direct_return_spells (is_unique_ptr t) h = pointer_spells true t h
  direct_return_spells (is_ref m t) h = pointer_spells m t h
  direct_return_spells is_str h = lit "::rust::repr::Fat " refl
  direct_return_spells (is_slice m t) h = lit "::rust::repr::Fat " refl
  direct_return_spells (is_other t plain) h = type_space_spells items kept t h

  direct_return_of_spells : (r : Ret) → return_fits (length items) r ≡ true →
      Spells closed (direct_return_of items r) (result_tokens (direct_result_of items r))
  unfolding return_fits
  direct_return_of_spells none h = lit "void " refl
  direct_return_of_spells (gives t) h = direct_return_spells (shaped t) (fits_parts 8 (length items) t h)

  return_spells : (f : Function) → FunctionKept items f →
      Spells closed (extern_return items f) (result_tokens (declared_result items f))
  unfolding extern_return declared_result
  return_spells f g = go f.throws (indirect_return items f f.return)
    where
      go : (throws indirect : Bool) →
          Spells closed
          (pick_text throws (bytes "::rust::repr::PtrLen ")
          (pick_text indirect (bytes "void ") (direct_return_of items f.return)))
          (result_tokens (pick throws Tree.ptr_len (pick indirect Tree.void (direct_result_of items f.return))))
      go true indirect = lit "::rust::repr::PtrLen " refl
      go false true = lit "void " refl
      go false false = direct_return_of_spells f.return g.return_fits

  -- ---- parameters

  receiver_spells : (form : Form) → form_fits (length items) form ≡ true →
      SpellsEach parameter_tokens (receiver items form) (declared_receiver items form)
  unfolding form_fits
  receiver_spells free h = none
  receiver_spells (const_method i) h =
      more (full_name_spells (item_at items i) (item_kept_lem items kept i h) ▷⟨ refl ⟩ lit " const" refl
      ▷⟨ refl ⟩ lit " &self" refl) none
  receiver_spells (mut_method i) h =
      more (full_name_spells (item_at items i) (item_kept_lem items kept i h) ▷⟨ refl ⟩ lit " &self" refl) none
  receiver_spells (associated i) h = none

  extern_type_spells : {t : Ty} {k : Shape} → Shaped t k → parts_fit (length items) t ≡ true →
      Spells closed (extern_arg_type items t k) (type_tokens (declared_type items t k))
  unfolding parts_fit
  extern_type_spells (is_box t) h = pointer_spells true t h
  extern_type_spells (is_unique_ptr t) h = pointer_spells true t h
  extern_type_spells (is_ref m t) h = type_space_spells items kept (pointer Ref m t) h
  extern_type_spells is_str h = type_space_spells items kept str h
  extern_type_spells (is_slice m t) h = type_space_spells items kept (pointer SliceRef m t) h
  extern_type_spells (is_other t plain) h = type_space_spells items kept t h

  argument_spells : (a : Argument) → argument_fits (length items) a ≡ true →
      Spells inside (extern_arg items a) (parameter_tokens (declared_argument items a))
  unfolding extern_arg declared_argument
  argument_spells a h =
      let n = length items in
      let t = a.type in
      star_spells (needs_indirect_abi items t) (declared_type items t (shape t))
      (extern_type_spells (shaped t) (fits_parts 8 n t (argument_type n a h)))
      ▷ name_spells a.name (argument_name n a h)

  slot_space_spells : {t : Ty} {k : Shape} → Shaped t k → parts_fit (length items) t ≡ true →
      Spells closed (slot_type items t k ++ space_after_type t) (type_tokens (slot_tree items t k))
  unfolding parts_fit write_type_space
  slot_space_spells (is_ref m t) h = pointer_spells m t h ▷ empty
  slot_space_spells (is_box t) h = type_space_spells items kept (template RustBox t) h
  slot_space_spells (is_unique_ptr t) h = type_space_spells items kept (template UniquePtr t) h
  slot_space_spells is_str h = type_space_spells items kept str h
  slot_space_spells (is_slice m t) h = type_space_spells items kept (pointer SliceRef m t) h
  slot_space_spells (is_other t plain) h = type_space_spells items kept t h

  slot_spells : (t : Ty) → type_fits 8 (length items) t ≡ true →
      Spells inside (slot_type items t (shape t) ++ space_after_type t ++ bytes "*return$")
      (parameter_tokens (declared_slot items t))
  slot_spells t h =
      as_tokens (λ ts. sym (suffix_tokens_lem (Cxx.pointer false) (slot_tree items t (shape t)) (quoted "return$" ts)))
      (slot_space_spells (shaped t) (fits_parts 8 (length items) t h) ▷ lit "*return$" refl)

  parameters_spell : (f : Function) → FunctionKept items f →
      SpellsEach parameter_tokens (extern_parameters items f) (declared_parameters items f)
  unfolding extern_parameters declared_parameters slot
  parameters_spell f g =
      each_append parameter_tokens
      (each_append parameter_tokens (receiver_spells f.form g.form_fits)
      (map_spells parameter_tokens (argument_fits (length items)) (extern_arg items) (declared_argument items)
      argument_spells f.arguments g.arguments_fit))
      (map_spells parameter_tokens (type_fits 8 (length items))
      (λ t. slot_type items t (shape t) ++ space_after_type t ++ bytes "*return$") (declared_slot items) slot_spells
      (slot items f) (slot_fits (length items) (indirect_return items f f.return) f.return g.return_fits))

  -- ---- declarations

  pub declaration_spells : (x : Item) → ItemKept items x → (f : Function) → FunctionKept items f →
      Spells closed (function_decl items x f) (declaration_tokens (declaration_of items x f))
  unfolding function_decl
  declaration_spells x k f g =
      return_spells f g ▷ extern_fn_spells items kept x k f g ▷⟨ refl ⟩ lit "(" refl
      ▷ list_spells parameter_tokens (parameters_spell f g) ▷⟨ refl ⟩ lit ") noexcept;\n" refl

-- ---- layouts

measure_spells : (m : Measure) → Spells inside (measure_name m) (measure_tokens m)
measure_spells Tree.size = lit "size" refl
measure_spells Tree.align = lit "align" refl

module _ {items : List Item} (x : Item) (k : ItemKept items x) (m : Measure) where
  pub layout_declaration_spells :
      Spells closed (layout_decl x (operator_name m)) (declaration_tokens (layout_declaration_of x m))
  unfolding layout_decl
  layout_declaration_spells =
      lit "::std::size_t " refl ▷ operator_spells x k m ▷⟨ refl ⟩ lit "() noexcept;\n" refl

  pub layout_definition_spells :
      Spells closed (layout_definition x (measure_name m) (operator_name m)) (layout_tokens (layout_definition_of x m))
  unfolding layout_definition
  layout_definition_spells =
      lit "::std::size_t " refl ▷ name_spells x.cxx k.cxx_name ▷⟨ refl ⟩ lit "::layout::" refl ▷ measure_spells m
      ▷⟨ refl ⟩ lit "() noexcept {\n" refl ▷ lit "  return " refl ▷ operator_spells x k m ▷⟨ refl ⟩ lit "();\n" refl
      ▷ lit "}\n" refl
