-- The trees of declarations and layout definitions keep the grammar's rules.
use Rattle.std.proofs.Common.{◌≡◌, ℕ, suc, ◌+◌, ◌≤◌, Bool, true, false, not, List, [], ◌∷◌, ◌++◌, map, length, sym, refl, ◌∙◌, arith, leb-true}
use lib.ListN.{length-map}
use Rattle.lexical.specs.Bytes.{bytes, every, same, member}
use Rattle.lexical.specs.Names.{name_shape, name_ok, keywords, alternative_tokens, reserved, is_name}
use Rattle.lexical.proofs.BoolLaws.{both}
use Rattle.lexical.proofs.ByteLaws.{Each, every_append}
use Rattle.format.specs.Decode.{pick}
use Rattle.format.specs.declared.Template.{Template}
use Rattle.format.specs.declared.Template.TheVariants.{RustBox, UniquePtr}
use Rattle.format.specs.declared.Pointer.{Pointer}
use Rattle.format.specs.declared.Pointer.TheVariants.{Ref, SliceRef}
use Rattle.format.specs.Types.{Ty, template, pointer, str, Ret, none, gives}
use Rattle.format.specs.Sheet.{Form, free, const_method, mut_method, associated, Argument, Function, Item}
use Rattle.syntax.specs.Items.{item_at}
use Rattle.syntax.specs.Mangle.{extern_fn}
use Rattle.syntax.specs.Types.{needs_indirect_abi}
use Rattle.decoded.specs.Fits.{depth, parts_fit, type_fits, return_fits, argument_fits, form_fits}
use Rattle.decoded.proofs.Decoded.{fits_depth, fits_parts, fits}
use Rattle.decoded.proofs.Kept.{argument_name, argument_type, ItemKept, FunctionKept}
use Rattle.bridge.specs.Write.{indirect_return, Shape, shape, returned_if, slot}
use Rattle.grammar.specs.Types as Cxx
use Rattle.grammar.specs.Types.{CxxType}
use Rattle.grammar.specs.Tree as Tree
use Rattle.grammar.specs.Tree.{Measure}
use Rattle.grammar.specs.Rules.{levels, parts_ok, type_ok, result_ok, is_root_main, declared_ok, is_self, is_slot, declaration_ok}
use Rattle.grammar.specs.Rules.{at_most_one, few_arguments, layout_ok}
use Rattle.spelling.specs.TypeTree.{pointer_to, cxx_type}
use Rattle.spelling.specs.DeclarationTree.{direct_result, direct_result_of, declared_result, declared_receiver}
use Rattle.spelling.specs.DeclarationTree.{declared_type, declared_argument, slot_tree, declared_slot}
use Rattle.spelling.specs.DeclarationTree.{declared_parameters, declaration_of, layout_declaration_of}
use Rattle.spelling.specs.DeclarationTree.{layout_definition_of}
use Rattle.spelling.proofs.Lists.{few_between, none_or_one}
use Rattle.spelling.proofs.TypeSpelling.{item_kept_lem}
use Rattle.spelling.proofs.TypeRules.{item_path_ok, type_ok_lem, suffix_ok, higher_ok}
use Rattle.spelling.proofs.Shapes.{Shaped, is_box, is_unique_ptr, is_ref, is_str, is_slice, is_other, shaped}
use Rattle.spelling.proofs.Symbols.{extern_fn_symbol, operator_symbol}
use Rattle.spelling.proofs.DeclarationSpelling.{slot_fits}

self_name : is_name (bytes "self") ≡ true
unfolding every same member name_shape name_ok keywords alternative_tokens reserved
self_name = refl

-- the type inside one that fits has a level less
below : (limit items : ℕ) (outer t : Ty) → depth outer ≡ suc (depth t) → parts_fit items outer ≡ parts_fit items t →
    type_fits (suc limit) items outer ≡ true → type_fits limit items t ≡ true
below limit items outer t d p h =
    fits limit items t (omega (arith, fits_depth (suc limit) items outer h, d))
    (sym p ∙ fits_parts (suc limit) items outer h)

-- ---- how many arguments are declared

-- the arguments of a function, as parameters or operands
pub mapped_few : {A : Type 0} (g : Argument → A) {items : List Item} (f : Function) → FunctionKept items f →
    length (map g f.arguments) ≤ 31
mapped_few g f k = rw (length-map f.arguments g) (leb-true (length f.arguments) 31 k.few_arguments)

pub slot_few : (items : List Item) (f : Function) → length (slot items f) ≤ 1
unfolding slot
slot_few items f = go (indirect_return items f f.return) f.return
  where
    go : (indirect : Bool) (r : Ret) → length (returned_if indirect r) ≤ 1
    go indirect none = omega arith
    go true (gives t) = omega arith
    go false (gives t) = omega arith

receiver_self : (items : List Item) (form : Form) →
    length (declared_receiver items form) ≤ at_most_one is_self (declared_receiver items form)
unfolding at_most_one is_self same
receiver_self items free = omega arith
receiver_self items (const_method i) = omega arith
receiver_self items (mut_method i) = omega arith
receiver_self items (associated i) = omega arith

module _ (items : List Item) (kept : Each (ItemKept items) items) where
  -- ---- types

  pub pointer_ok_lem : (m : Bool) (limit : ℕ) (t : Ty) → type_fits limit (length items) t ≡ true →
      type_ok (suc limit) (pointer_to m (cxx_type items t)) ≡ true
  pointer_ok_lem m limit t h = suffix_ok limit (Cxx.pointer (not m)) (cxx_type items t) (type_ok_lem items kept limit t h)

  template_below : (k : Template) (t : Ty) → type_fits 8 (length items) (template k t) ≡ true →
      type_fits 7 (length items) t ≡ true
  unfolding depth parts_fit
  template_below k t h = below 7 (length items) (template k t) t refl refl h

  pointer_below : (k : Pointer) (m : Bool) (t : Ty) → type_fits 8 (length items) (pointer k m t) ≡ true →
      type_fits 7 (length items) t ≡ true
  unfolding depth parts_fit
  pointer_below k m t h = below 7 (length items) (pointer k m t) t refl refl h

  declared_type_ok : {t : Ty} {k : Shape} → Shaped t k → type_fits 8 (length items) t ≡ true →
      type_ok 8 (declared_type items t k) ≡ true
  declared_type_ok (is_box t) h = pointer_ok_lem true 7 t (template_below RustBox t h)
  declared_type_ok (is_unique_ptr t) h = pointer_ok_lem true 7 t (template_below UniquePtr t h)
  declared_type_ok (is_ref m t) h = type_ok_lem items kept 8 (pointer Ref m t) h
  declared_type_ok is_str h = type_ok_lem items kept 8 str h
  declared_type_ok (is_slice m t) h = type_ok_lem items kept 8 (pointer SliceRef m t) h
  declared_type_ok (is_other t plain) h = type_ok_lem items kept 8 t h

  pub slot_tree_ok : {t : Ty} {k : Shape} → Shaped t k → type_fits 8 (length items) t ≡ true →
      type_ok 8 (slot_tree items t k) ≡ true
  slot_tree_ok (is_ref m t) h = pointer_ok_lem m 7 t (pointer_below Ref m t h)
  slot_tree_ok (is_box t) h = type_ok_lem items kept 8 (template RustBox t) h
  slot_tree_ok (is_unique_ptr t) h = type_ok_lem items kept 8 (template UniquePtr t) h
  slot_tree_ok is_str h = type_ok_lem items kept 8 str h
  slot_tree_ok (is_slice m t) h = type_ok_lem items kept 8 (pointer SliceRef m t) h
  slot_tree_ok (is_other t plain) h = type_ok_lem items kept 8 t h

  -- ---- results

  direct_result_ok : (main : Bool) {t : Ty} {k : Shape} → Shaped t k → type_fits 8 (length items) t ≡ true →
      result_ok main (direct_result items t k) ≡ true
  unfolding result_ok
  direct_result_ok main (is_box t) h = pointer_ok_lem true 7 t (template_below RustBox t h)
  direct_result_ok main (is_unique_ptr t) h = pointer_ok_lem true 7 t (template_below UniquePtr t h)
  direct_result_ok main (is_ref m t) h = pointer_ok_lem m 7 t (pointer_below Ref m t h)
  direct_result_ok main is_str h = refl
  direct_result_ok main (is_slice m t) h = refl
  direct_result_ok main (is_other t plain) h = type_ok_lem items kept 8 t h

  declared_result_ok : (main : Bool) (f : Function) → FunctionKept items f →
      result_ok main (declared_result items f) ≡ true
  unfolding result_ok declared_result return_fits
  declared_result_ok main f g = go f.throws (indirect_return items f f.return) f.return g.return_fits
    where
      go : (throws indirect : Bool) (r : Ret) → return_fits (length items) r ≡ true →
          result_ok main (pick throws Tree.ptr_len (pick indirect Tree.void (direct_result_of items r))) ≡ true
      go true indirect r h = refl
      go false true r h = refl
      go false false none h = refl
      go false false (gives t) h = direct_result_ok main (shaped t) h

  -- ---- parameters

  receiver_ok : (form : Form) → form_fits (length items) form ≡ true →
      every declared_ok (declared_receiver items form) ≡ true
  unfolding every declared_ok levels parts_ok form_fits
  receiver_ok free h = refl
  receiver_ok (const_method i) h = rw (item_path_ok (item_at items i) (item_kept_lem items kept i h), self_name)
  receiver_ok (mut_method i) h = rw (item_path_ok (item_at items i) (item_kept_lem items kept i h), self_name)
  receiver_ok (associated i) h = refl

  -- one `*` more is level 9 at most
  star_ok : (b : Bool) (x : CxxType) → type_ok 8 x ≡ true → type_ok 9 (pick b (pointer_to true x) x) ≡ true
  star_ok true x h = suffix_ok 8 (Cxx.pointer false) x h
  star_ok false x h = higher_ok 8 x h

  arguments_ok : (xs : List Argument) → every (argument_fits (length items)) xs ≡ true →
      every declared_ok (map (declared_argument items) xs) ≡ true
  unfolding every declared_ok declared_argument
  arguments_ok [] h = refl
  arguments_ok (a ∷ xs) h =
      let q = both (argument_fits (length items) a) _ h in
      let t = declared_type_ok (shaped a.type) (argument_type (length items) a q.0) in
      rw (star_ok (needs_indirect_abi items a.type) _ t, argument_name (length items) a q.0)
      (arguments_ok xs q.1)

  slots_ok : (ts : List Ty) → every (type_fits 8 (length items)) ts ≡ true →
      every declared_ok (map (declared_slot items) ts) ≡ true
  unfolding every declared_ok
  slots_ok [] h = refl
  slots_ok (t ∷ ts) h =
      let q = both (type_fits 8 (length items) t) _ h in
      rw (suffix_ok 8 (Cxx.pointer false) (slot_tree items t (shape t)) (slot_tree_ok (shaped t) q.0))
      (slots_ok ts q.1)

  parameters_ok : (f : Function) → FunctionKept items f → every declared_ok (declared_parameters items f) ≡ true
  unfolding declared_parameters slot
  parameters_ok f g =
      every_append declared_ok (declared_receiver items f.form ++ map (declared_argument items) f.arguments) _
      (every_append declared_ok (declared_receiver items f.form) _ (receiver_ok f.form g.form_fits)
      (arguments_ok f.arguments g.arguments_fit))
      (slots_ok (slot items f)
      (slot_fits (length items) (indirect_return items f f.return) f.return g.return_fits))

  few_parameters : (f : Function) → FunctionKept items f →
      few_arguments is_self is_slot (declared_parameters items f) ≡ true
  unfolding declared_parameters is_slot
  few_parameters f g =
      few_between is_self is_slot (declared_receiver items f.form) (map (declared_argument items) f.arguments)
      (map (declared_slot items) (slot items f)) (receiver_self items f.form) (mapped_few (declared_argument items) f g)
      (none_or_one is_slot (declared_slot items) (λ t. refl) (slot items f) (slot_few items f))

  -- ---- declarations

  pub declaration_ok_lem : (x : Item) → ItemKept items x → (f : Function) → FunctionKept items f → (depth : ℕ) →
      declaration_ok depth (declaration_of items x f) ≡ true
  unfolding declaration_ok
  declaration_ok_lem x k f g depth =
      let main = is_root_main depth (Tree.free (extern_fn items x.namespace f)) in
      rw (extern_fn_symbol items kept x k f g, declared_result_ok main f g, parameters_ok f g, few_parameters f g)

-- ---- layouts

module _ {items : List Item} (x : Item) (k : ItemKept items x) (m : Measure) where
  pub layout_declaration_ok : (depth : ℕ) → declaration_ok depth (layout_declaration_of x m) ≡ true
  unfolding every declaration_ok result_ok levels parts_ok at_most_one few_arguments
  layout_declaration_ok depth = rw (operator_symbol x k m)

  pub layout_definition_ok : layout_ok (layout_definition_of x m) ≡ true
  unfolding layout_ok
  layout_definition_ok = rw (k.cxx_name, operator_symbol x k m)
