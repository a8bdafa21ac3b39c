-- The trees of shims keep the grammar's rules.
use Rattle.std.proofs.Common.{◌≡◌, ◌+◌, ◌≤◌, Bool, true, false, not, leb, List, [], ◌∷◌, ◌++◌, map, length, refl, arith}
use mathlib.Core.Bool.{false≢true}
use lib.ListN.{length-map}
use Rattle.lexical.specs.Bytes.{bytes, every, same}
use Rattle.lexical.specs.Names.{is_name}
use Rattle.lexical.proofs.BoolLaws.{both, and_of}
use Rattle.lexical.proofs.ByteLaws.{Each, every_cons, every_append}
use Rattle.format.specs.Decode.{pick}
use Rattle.format.specs.declared.Template.TheVariants.{RustBox, UniquePtr}
use Rattle.format.specs.declared.Pointer.TheVariants.{SliceRef}
use Rattle.format.specs.Types.{Ty, template, pointer, Ret, none, gives}
use Rattle.format.specs.Sheet.{Name, Form, free, const_method, mut_method, associated, Argument, Function, Item, Sheet}
use Rattle.rules.specs.Rules.{gather, is_method}
use Rattle.decoded.specs.Fits.{type_fits, return_fits, argument_fits, form_fits}
use Rattle.decoded.proofs.Kept.{argument_name, argument_type, ItemKept, FunctionKept}
use Rattle.bridge.specs.Write.{indirect_return, Shape, slot, is_root, is_free, is_cxx_main, is_held, direct}
use Rattle.grammar.specs.Types.{CxxType}
use Rattle.grammar.specs.Tree as Tree
use Rattle.grammar.specs.Rules
use Rattle.grammar.specs.Rules.{levels, parts_ok, type_ok, result_ok, head_ok, argument_ok, local_ok, operand_ok}
use Rattle.grammar.specs.Rules.{at_most_one, few_arguments, is_receiver, is_slot_address, form_ok, call_ok, comments_ok, shim_ok}
use Rattle.agreement.specs.Agreement as Agreement
use Rattle.agreement.specs.Agreement.{Passing, passing, argument_operand}
use Rattle.spelling.specs.TypeTree.{cxx_type}
use Rattle.spelling.specs.ShimTree.{comments_of, result_of, head_of, argument_of, held_of, room_of, direct_form}
use Rattle.spelling.specs.ShimTree.{return_form, operand_of, slot_address_of, operands_of, shim_tree}
use Rattle.spelling.proofs.Lists.{few_between, none_or_one}
use Rattle.spelling.proofs.TypeSpelling.{item_kept_lem}
use Rattle.spelling.proofs.TypeRules.{type_ok_lem}
use Rattle.spelling.proofs.Shapes.{Shaped, is_box, is_unique_ptr, is_ref, is_str, is_slice, is_other, shaped}
use Rattle.spelling.proofs.Symbols.{extern_fn_symbol}
use Rattle.spelling.proofs.DeclarationSpelling.{slot_fits}
use Rattle.spelling.proofs.DeclarationRules.{mapped_few, slot_few, slot_tree_ok}
use Rattle.spelling.proofs.Comments.{comments_ok_lem}

-- ---- operands

operand_ok_lem : (p : Passing) (x : Name) → is_name x ≡ true → operand_ok (argument_operand p x) ≡ true
unfolding operand_ok
operand_ok_lem Agreement.direct x h = h
operand_ok_lem Agreement.box x h = h
operand_ok_lem Agreement.unique_ptr x h = h
operand_ok_lem Agreement.rust_string x h = h
operand_ok_lem Agreement.other_indirect x h = h

slots_ok : (ts : List Ty) → every operand_ok (map slot_address_of ts) ≡ true
unfolding every operand_ok
slots_ok [] = refl
slots_ok (t ∷ ts) = slots_ok ts

module _ (items : List Item) where
  operands_ok : (f : Function) → FunctionKept items f → every operand_ok (operands_of items f) ≡ true
  unfolding every operand_ok operands_of
  operands_ok f g =
      every_append operand_ok
      (pick (is_method f.form) (Tree.receiver ∷ []) [] ++ map (operand_of items) f.arguments) _
      (every_append operand_ok (pick (is_method f.form) (Tree.receiver ∷ []) []) _ (receiver_ok (is_method f.form))
      (go f.arguments g.arguments_fit))
      (slots_ok (slot items f))
    where
      receiver_ok : (b : Bool) → every operand_ok (pick b (Tree.receiver ∷ []) []) ≡ true
      receiver_ok true = refl
      receiver_ok false = refl

      go : (xs : List Argument) → every (argument_fits (length items)) xs ≡ true →
          every operand_ok (map (operand_of items) xs) ≡ true
      go [] h = refl
      go (a ∷ xs) h =
          let q = both (argument_fits (length items) a) _ h in
          and_of (operand_ok (operand_of items a)) _
          (operand_ok_lem (passing items a.type) a.name (argument_name (length items) a q.0)) (go xs q.1)

  few_operands : (f : Function) → FunctionKept items f →
      few_arguments is_receiver is_slot_address (operands_of items f) ≡ true
  unfolding operands_of at_most_one is_receiver is_slot_address
  few_operands f g =
      few_between is_receiver is_slot_address (pick (is_method f.form) (Tree.receiver ∷ []) [])
      (map (operand_of items) f.arguments) (map slot_address_of (slot items f)) (one (is_method f.form))
      (mapped_few (operand_of items) f g)
      (none_or_one is_slot_address slot_address_of (λ t. refl) (slot items f) (slot_few items f))
    where
      one : (b : Bool) → length (pick b (Tree.receiver ∷ []) []) ≤ at_most_one is_receiver (pick b (Tree.receiver ∷ []) [])
      one true = omega arith
      one false = omega arith

module _ (items : List Item) (kept : Each (ItemKept items) items) where
  -- ---- the call

  direct_form_ok : {t : Ty} {k : Shape} → Shaped t k → type_fits 8 (length items) t ≡ true →
      form_ok (direct_form items t k) ≡ true
  unfolding form_ok levels parts_ok cxx_type
  direct_form_ok (is_box t) h = type_ok_lem items kept 8 (template RustBox t) h
  direct_form_ok (is_unique_ptr t) h = type_ok_lem items kept 8 (template UniquePtr t) h
  direct_form_ok (is_ref m t) h = refl
  direct_form_ok is_str h = refl
  direct_form_ok (is_slice m t) h = type_ok_lem items kept 8 (pointer SliceRef m t) h
  direct_form_ok (is_other t plain) h = refl

  form_ok_lem : (f : Function) → FunctionKept items f →
      form_ok (pick f.throws Tree.error (return_form items (direct items f))) ≡ true
  unfolding form_ok direct
  form_ok_lem f g =
      go f.throws (direct items f)
      (slot_fits (length items) (not (indirect_return items f f.return)) f.return g.return_fits)
    where
      go : (throws : Bool) (ts : List Ty) → every (type_fits 8 (length items)) ts ≡ true →
          form_ok (pick throws Tree.error (return_form items ts)) ≡ true
      go true ts h = refl
      go false [] h = refl
      go false (t ∷ ts) h = direct_form_ok (shaped t) (every_cons (type_fits 8 (length items)) t ts h).0

  -- ---- locals

  held_ok : (xs : List Argument) → every (argument_fits (length items)) xs ≡ true →
      every local_ok (gather (held_of items) xs) ≡ true
  unfolding every gather local_ok
  held_ok [] h = refl
  held_ok (a ∷ xs) h =
      let q = both (argument_fits (length items) a) _ h in
      every_append local_ok (held_of items a) _
      (one (is_held items a.type) (cxx_type items a.type) a.name
      (type_ok_lem items kept 8 a.type (argument_type (length items) a q.0)) (argument_name (length items) a q.0))
      (held_ok xs q.1)
    where
      one : (b : Bool) (x : CxxType) (n : Name) → type_ok 8 x ≡ true → is_name n ≡ true →
          every local_ok (pick b (Tree.held x n ∷ []) []) ≡ true
      one true x n h e = rw (h, e)
      one false x n h e = refl

  rooms_ok : (ts : List Ty) → every (type_fits 8 (length items)) ts ≡ true → every local_ok (map (room_of items) ts) ≡ true
  unfolding every local_ok
  rooms_ok [] h = refl
  rooms_ok (t ∷ ts) h =
      let q = both (type_fits 8 (length items) t) _ h in
      and_of (local_ok (room_of items t)) _ (slot_tree_ok items kept (shaped t) q.0) (rooms_ok ts q.1)

  -- ---- the head

  head_ok_lem : (x : Item) → is_name x.cxx ≡ true → (form : Form) → form_fits (length items) form ≡ true →
      head_ok (head_of items x form) ≡ true
  unfolding head_ok form_fits
  head_ok_lem x n free h = n
  head_ok_lem x n (const_method i) h = rw ((item_kept_lem items kept i h).cxx_name, n)
  head_ok_lem x n (mut_method i) h = rw ((item_kept_lem items kept i h).cxx_name, n)
  head_ok_lem x n (associated i) h = rw ((item_kept_lem items kept i h).cxx_name, n)

  arguments_ok : (xs : List Argument) → every (argument_fits (length items)) xs ≡ true →
      every argument_ok (map (argument_of items) xs) ≡ true
  unfolding every argument_ok
  arguments_ok [] h = refl
  arguments_ok (a ∷ xs) h =
      let q = both (argument_fits (length items) a) _ h in
      rw (type_ok_lem items kept 8 a.type (argument_type (length items) a q.0), argument_name (length items) a q.0)
      (arguments_ok xs q.1)

  -- `int` is for `main` in the root
  main_root : (x : Item) (f : Function) → is_cxx_main x f ≡ true →
      Rules.is_root_main (length x.namespace) (head_of items x f.form) ≡ true
  unfolding is_cxx_main
  main_root x f h =
      let a = both _ _ h in
      let b = both _ _ a.0 in
      let c = both _ _ b.0 in
      let d = both _ _ c.0 in
      let e = both _ _ d.0 in
      go x.namespace f.form e.1 d.1 e.0
    where
      go : (ns : List Name) (form : Form) → is_root ns ≡ true → is_free form ≡ true →
          same x.cxx (bytes "main") ≡ true →
          Rules.is_root_main (length ns) (head_of items x form) ≡ true
      go [] free r e h = h
      go [] (const_method i) r e h = absurd (false≢true e)
      go [] (mut_method i) r e h = absurd (false≢true e)
      go [] (associated i) r e h = absurd (false≢true e)
      go (n ∷ ns) form r e h = absurd (false≢true r)

  result_ok_lem : (x : Item) (f : Function) → FunctionKept items f →
      result_ok (Rules.is_root_main (length x.namespace) (head_of items x f.form))
      (pick (is_cxx_main x f) Tree.int (result_of items f.return)) ≡ true
  unfolding result_ok return_fits
  result_ok_lem x f g = go (is_cxx_main x f) (main_root x f) f.return g.return_fits
    where
      main : Bool
      main = Rules.is_root_main (length x.namespace) (head_of items x f.form)

      go : (b : Bool) → (b ≡ true → main ≡ true) → (r : Ret) → return_fits (length items) r ≡ true →
          result_ok main (pick b Tree.int (result_of items r)) ≡ true
      go true m r h = m refl
      go false m none h = refl
      go false m (gives t) h = type_ok_lem items kept 8 t h

comments_kept : (free doxygen : Bool) (items : List Item) (f : Function) → FunctionKept items f →
    comments_ok (pick free (comments_of doxygen f.comment) []) ≡ true
unfolding every comments_ok
comments_kept true doxygen items f g = comments_ok_lem doxygen f.comment g.few_lines g.lines_fit
comments_kept false doxygen items f g = refl

pub shim_ok_lem : (s : Sheet) → Each (ItemKept s.items) s.items → (x : Item) → ItemKept s.items x → (f : Function) →
    FunctionKept s.items f → shim_ok (length x.namespace) (shim_tree s x f) ≡ true
unfolding shim_ok call_ok slot
shim_ok_lem s kept x k f g =
    let items = s.items in
    let locals : every local_ok (gather (held_of items) f.arguments ++ map (room_of items) (slot items f)) ≡ true =
    every_append local_ok (gather (held_of items) f.arguments) _ (held_ok items kept f.arguments g.arguments_fit)
    (rooms_ok items kept (slot items f)
    (slot_fits (length items) (indirect_return items f f.return) f.return g.return_fits)) in
    let few : leb (length (map (argument_of items) f.arguments)) 31 ≡ true =
    rw (length-map f.arguments (argument_of items)) g.few_arguments in
    rw (
      comments_kept (is_free f.form) s.doxygen items f g,
      result_ok_lem items kept x f g,
      head_ok_lem items kept x k.cxx_name f.form g.form_fits,
      arguments_ok items kept f.arguments g.arguments_fit,
      few,
      locals,
      form_ok_lem items kept f g,
      extern_fn_symbol items kept x k f g,
      operands_ok items f g,
      few_operands items f g,
    )
