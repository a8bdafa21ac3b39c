-- Shims are spelled as their trees' tokens.
use Rattle.std.proofs.Common.{◌≡◌, ℕ, Bool, true, false, not, ◌&&◌, ◌||◌, ltb, List, [], ◌∷◌, ◌++◌, map, length, refl, ap}
use mathlib.Core.Bool.{false≢true}
use Rattle.lexical.specs.Bytes.{bytes, every}
use Rattle.lexical.specs.Names.{is_name}
use Rattle.lexical.specs.Decimal.{pick_text}
use Rattle.lexical.proofs.ByteLaws.{Each, byte_eq}
use Rattle.format.specs.Decode.{pick}
use Rattle.format.specs.declared.Template.TheVariants.{RustBox, UniquePtr}
use Rattle.format.specs.declared.Pointer.TheVariants.{SliceRef}
use Rattle.format.specs.Types.{Ty, atom, named, template, pointer, str, fn, array, Ret, none, gives}
use Rattle.format.specs.Sheet.{Form, free, const_method, mut_method, associated, Argument, Function, Item, Sheet}
use Rattle.syntax.specs.Items.{item_at, self_type}
use Rattle.syntax.specs.Mangle.{extern_fn}
use Rattle.syntax.specs.Types.{atom_number, needs_indirect_abi, is_rust_string}
use Rattle.rules.specs.Rules.{gather, is_method}
use Rattle.decoded.specs.Fits.{parts_fit, type_fits, return_fits, argument_fits, form_fits}
use Rattle.decoded.proofs.Decoded.{fits_parts}
use Rattle.decoded.proofs.Kept.{argument_name, argument_type, ItemKept, FunctionKept}
use Rattle.bridge.specs.WriteType.{write_type, write_type_space, write_return_type}
use Rattle.bridge.specs.Write as Write
use Rattle.bridge.specs.Write.{indirect_return, Shape, shape, slot_type, returned_if, slot, is_free, is_const, is_cxx_main, local_name}
use Rattle.bridge.specs.Write.{shim_decl, is_held, held_local, call_begin, call_end, direct, operand_end, operand, operands}
use Rattle.bridge.specs.Write.{slot_return, shim_body, write_doc, function_shim}
use Rattle.grammar.specs.Token.{Token, quoted}
use Rattle.grammar.specs.Tree as Tree
use Rattle.grammar.specs.Tree.{CallForm}
use Rattle.grammar.specs.Tokens.{each_tokens, optional_tokens, const_tokens, type_tokens, result_tokens, parameter_tokens}
use Rattle.grammar.specs.Tokens.{head_tokens, signature_tokens, operand_tokens, local_tokens, form_tokens, close_tokens}
use Rattle.grammar.specs.Tokens.{call_tokens, error_test_tokens, ending_tokens, comment_tokens, shim_tokens}
use Rattle.agreement.specs.Agreement.{rust_string, other_indirect, passing, argument_operand}
use Rattle.agreement.specs.Agreement as Agreement
use Rattle.spelling.specs.TypeTree.{cxx_type}
use Rattle.spelling.specs.DeclarationTree.{slot_tree}
use Rattle.spelling.specs.ShimTree.{comments_of, result_of, head_of, argument_of, held_of, room_of, direct_form}
use Rattle.spelling.specs.ShimTree.{return_form, operand_of, slot_address_of, operands_of, slot_ending, ending_of}
use Rattle.spelling.specs.ShimTree.{shim_tree}
use Rattle.spelling.proofs.Spells.{closed, inside, Spells, meets, ◌▷◌, ◌▷⟨◌⟩◌, weaken, as_tokens, empty, lit}
use Rattle.spelling.proofs.Spells.{name_spells, dollar_behind}
use Rattle.spelling.proofs.Lists.{SpellsEach, none, more, each_tokens_append, each_append, list_spells}
use Rattle.spelling.proofs.Lists.{map_spells, gather_spells, gather_map_spells}
use Rattle.spelling.proofs.TypeSpelling.{item_kept_lem, type_spells, type_space_spells}
use Rattle.spelling.proofs.Shapes.{Shaped, is_box, is_unique_ptr, is_ref, is_str, is_slice, is_other, shaped}
use Rattle.spelling.proofs.Symbols.{extern_fn_spells}
use Rattle.spelling.proofs.DeclarationSpelling.{slot_fits, pointer_spells}
use Rattle.spelling.proofs.Comments.{doc_spells}

module _ (items : List Item) (kept : Each (ItemKept items) items) where
  -- ---- heads

  return_spells : (r : Ret) → return_fits (length items) r ≡ true →
      Spells closed (write_return_type items r) (result_tokens (result_of items r))
  unfolding return_fits
  return_spells none h = lit "void " refl
  return_spells (gives t) h = type_space_spells items kept t (fits_parts 8 (length items) t h)

  result_spells : (main : Bool) (r : Ret) → return_fits (length items) r ≡ true →
      Spells closed (pick_text main (bytes "int ") (write_return_type items r))
      (result_tokens (pick main Tree.int (result_of items r)))
  result_spells true r h = lit "int " refl
  result_spells false r h = return_spells r h

  -- a member's head is behind its type's name
  member_spells : (i : ℕ) (x : Item) → ltb i (length items) ≡ true → is_name x.cxx ≡ true →
      Spells inside ((item_at items i).cxx ++ bytes "::" ++ [] ++ x.cxx)
      (head_tokens (Tree.method (item_at items i).cxx x.cxx))
  member_spells i x h n =
      name_spells (item_at items i).cxx (item_kept_lem items kept i h).cxx_name ▷⟨ refl ⟩ lit "::" refl ▷ empty
      ▷ name_spells x.cxx n

  head_spells : (x : Item) (f : Function) → is_name x.cxx ≡ true → form_fits (length items) f.form ≡ true →
      Spells inside (local_name items x f) (head_tokens (head_of items x f.form))
  unfolding local_name gather form_fits
  head_spells x f n = go f.form
    where
      go : (form : Form) → form_fits (length items) form ≡ true →
          Spells inside (gather (λ i. (item_at items i).cxx ++ bytes "::") (self_type form) ++ x.cxx)
          (head_tokens (head_of items x form))
      go free h = name_spells x.cxx n
      go (const_method i) h = member_spells i x h n
      go (mut_method i) h = member_spells i x h n
      go (associated i) h = member_spells i x h n

  argument_spells : (a : Argument) → argument_fits (length items) a ≡ true →
      Spells inside (write_type_space items a.type ++ a.name) (parameter_tokens (argument_of items a))
  argument_spells a h =
      let n = length items in
      type_space_spells items kept a.type (fits_parts 8 n a.type (argument_type n a h))
      ▷ name_spells a.name (argument_name n a h)

  noexcept_meets : (throws : Bool) → meets inside (pick_text throws [] (bytes " noexcept")) inside ≡ true
  noexcept_meets true = refl
  noexcept_meets false = refl

  const_spells : (b : Bool) → Spells inside (pick_text b (bytes " const") []) (const_tokens b)
  const_spells true = lit " const" refl
  const_spells false = empty

  noexcept_spells : (throws : Bool) →
      Spells inside (pick_text throws [] (bytes " noexcept")) (optional_tokens (not throws) (quoted "noexcept" []))
  noexcept_spells true = empty
  noexcept_spells false = lit " noexcept" refl

  signature_spells : (x : Item) (f : Function) → is_name x.cxx ≡ true → FunctionKept items f →
      Spells inside (shim_decl items x f)
      (signature_tokens (pick (is_cxx_main x f) Tree.int (result_of items f.return)) (head_of items x f.form)
      (map (argument_of items) f.arguments) (is_const f.form) (not f.throws))
  unfolding shim_decl
  signature_spells x f n g =
      result_spells (is_cxx_main x f) f.return g.return_fits ▷ head_spells x f n g.form_fits ▷⟨ refl ⟩ lit "(" refl
      ▷ list_spells parameter_tokens
      (map_spells parameter_tokens (argument_fits (length items)) (λ a. write_type_space items a.type ++ a.name)
      (argument_of items) argument_spells f.arguments g.arguments_fit)
      ▷⟨ refl ⟩ lit ")" refl ▷ const_spells (is_const f.form)
      ▷⟨ noexcept_meets f.throws ⟩ noexcept_spells f.throws

  -- ---- locals

  held_spells : (a : Argument) → argument_fits (length items) a ≡ true →
      Spells closed (held_local items a) (each_tokens local_tokens (held_of items a))
  unfolding held_local
  held_spells a h = go (is_held items a.type)
    where
      name : is_name a.name ≡ true
      name = argument_name (length items) a h

      type : parts_fit (length items) a.type ≡ true
      type = fits_parts 8 (length items) a.type (argument_type (length items) a h)

      go : (b : Bool) →
          Spells closed
          (pick_text b
          (bytes "  ::rust::ManuallyDrop<" ++ write_type items a.type ++ bytes "> " ++ a.name
          ++ bytes "$(::std::move(" ++ a.name ++ bytes "));\n")
          [])
          (each_tokens local_tokens (pick b (Tree.held (cxx_type items a.type) a.name ∷ []) []))
      go true =
          dollar_behind (lit "  ::rust::ManuallyDrop<" refl ▷ type_spells items kept a.type type
          ▷⟨ refl ⟩ lit "> " refl)
          a.name name refl (lit "(::std::move(" refl)
          ▷ name_spells a.name name ▷⟨ refl ⟩ lit "));\n" refl
      go false = empty

  slot_type_spells : {t : Ty} {k : Shape} → Shaped t k → parts_fit (length items) t ≡ true →
      Spells inside (slot_type items t k) (type_tokens (slot_tree items t k))
  unfolding parts_fit
  slot_type_spells (is_ref m t) h = weaken closed (pointer_spells items kept m t h)
  slot_type_spells (is_box t) h = type_spells items kept (template RustBox t) h
  slot_type_spells (is_unique_ptr t) h = type_spells items kept (template UniquePtr t) h
  slot_type_spells is_str h = type_spells items kept str h
  slot_type_spells (is_slice m t) h = type_spells items kept (pointer SliceRef m t) h
  slot_type_spells (is_other t plain) h = type_spells items kept t h

  abbrev room_text : Ty → List ℕ
  room_text t = bytes "::rust::MaybeUninit<" ++ slot_type items t (shape t) ++ bytes "> return$;\n" ++ bytes "  "

  room_spells : (t : Ty) → type_fits 8 (length items) t ≡ true →
      Spells closed (room_text t) (local_tokens (room_of items t))
  room_spells t h =
      lit "::rust::MaybeUninit<" refl ▷ slot_type_spells (shaped t) (fits_parts 8 (length items) t h)
      ▷⟨ refl ⟩ lit "> return$;\n" refl ▷ lit "  " refl

  -- ---- the call

  begin_spells : {t : Ty} {k : Shape} → Shaped t k → parts_fit (length items) t ≡ true →
      Spells closed (bytes "return " ++ call_begin items t k) (form_tokens (direct_form items t k))
  unfolding parts_fit cxx_type
  begin_spells (is_box t) h =
      lit "return " refl ▷ (type_spells items kept (template RustBox t) h ▷⟨ refl ⟩ lit "::from_raw(" refl)
  begin_spells (is_unique_ptr t) h =
      lit "return " refl ▷ (type_spells items kept (template UniquePtr t) h ▷⟨ refl ⟩ lit "(" refl)
  begin_spells (is_ref m t) h = lit "return " refl ▷ lit "*" refl
  begin_spells is_str h = lit "return " refl ▷ lit "::rust::impl<::rust::Str>::new_unchecked(" refl
  begin_spells (is_slice m t) h =
      lit "return " refl ▷
      (lit "::rust::impl<" refl ▷ type_spells items kept (pointer SliceRef m t) h ▷⟨ refl ⟩ lit ">::slice(" refl)
  begin_spells (is_other t plain) h = lit "return " refl ▷ empty

  end_spells : {t : Ty} {k : Shape} → Shaped t k → Spells closed (call_end k) (close_tokens (direct_form items t k))
  end_spells (is_box t) = lit ")" refl
  end_spells (is_unique_ptr t) = lit ")" refl
  end_spells (is_ref m t) = empty
  end_spells is_str = lit ")" refl
  end_spells (is_slice m t) = lit ")" refl
  end_spells (is_other t plain) = empty

  begins_spell : (b : Bool) (r : Ret) → return_fits (length items) r ≡ true →
      Spells closed (gather (λ t. bytes "return " ++ call_begin items t (shape t)) (returned_if b r))
      (form_tokens (return_form items (returned_if b r)))
  unfolding gather return_fits
  begins_spell b none h = empty
  begins_spell true (gives t) h = begin_spells (shaped t) (fits_parts 8 (length items) t h) ▷ empty
  begins_spell false (gives t) h = empty

  ends_spell : (b : Bool) (r : Ret) →
      Spells closed (gather (λ t. call_end (shape t)) (returned_if b r)) (close_tokens (return_form items (returned_if b r)))
  unfolding gather
  ends_spell b none = empty
  ends_spell true (gives t) = end_spells (shaped t) ▷ empty
  ends_spell false (gives t) = empty

  error_spells : (throws : Bool) →
      Spells closed (pick_text throws (bytes "::rust::repr::PtrLen error$ = ") [])
      (form_tokens (pick throws Tree.error Tree.bare))
  error_spells true = lit "::rust::repr::PtrLen error$ = " refl
  error_spells false = empty

  -- a throwing function has no direct return
  by_direct : (f : Function) (P : Bool → List Ty → Type 0) → P true [] → ((ts : List Ty) → P false ts) →
      P f.throws (direct items f)
  unfolding direct indirect_return
  by_direct f P p q = go f.return
    where
      nothing : (throws : Bool) → P throws []
      nothing true = p
      nothing false = q []

      something : (t : Ty) (throws indirect : Bool) → P throws (pick (not (throws || indirect)) (t ∷ []) [])
      something t true indirect = p
      something t false indirect = q (pick (not indirect) (t ∷ []) [])

      go : (r : Ret) → P f.throws (returned_if (not (indirect_return items f r)) r)
      go none = nothing f.throws
      go (gives t) = something t f.throws (needs_indirect_abi items t)

  abbrev call_form : Function → CallForm
  call_form f = pick f.throws Tree.error (return_form items (direct items f))

  form_tokens_lem : (f : Function) (ts : List Token) →
      form_tokens (return_form items (direct items f)) (form_tokens (pick f.throws Tree.error Tree.bare) ts) ≡
      form_tokens (call_form f) ts
  form_tokens_lem f ts =
      by_direct f
      (λ throws ds. form_tokens (return_form items ds) (form_tokens (pick throws Tree.error Tree.bare) ts) ≡
      form_tokens (pick throws Tree.error (return_form items ds)) ts)
      refl (λ ds. refl)

  close_tokens_lem : (f : Function) (ts : List Token) →
      close_tokens (return_form items (direct items f)) ts ≡ close_tokens (call_form f) ts
  close_tokens_lem f ts =
      by_direct f
      (λ throws ds. close_tokens (return_form items ds) ts ≡
      close_tokens (pick throws Tree.error (return_form items ds)) ts)
      refl (λ ds. refl)

  -- ---- operands

  rust_string_indirect : (t : Ty) → is_rust_string t ≡ true → needs_indirect_abi items t ≡ true
  unfolding needs_indirect_abi
  rust_string_indirect (atom a) h = rw (byte_eq (atom_number a) 15 h)
  rust_string_indirect (named i) h = absurd (false≢true h)
  rust_string_indirect (template k t) h = absurd (false≢true h)
  rust_string_indirect (pointer k m t) h = absurd (false≢true h)
  rust_string_indirect str h = absurd (false≢true h)
  rust_string_indirect (fn r ts) h = absurd (false≢true h)
  rust_string_indirect (array t n) h = absurd (false≢true h)

  plain_operand : (x : List ℕ) → is_name x ≡ true → (string indirect : Bool) → (string ≡ true → indirect ≡ true) →
      Spells inside (pick_text indirect (bytes "&") [] ++ x ++ pick_text (not string && indirect) (bytes "$.value") [])
      (operand_tokens (argument_operand (pick string rust_string (pick indirect other_indirect Agreement.direct)) x))
  plain_operand x n true true h = lit "&" refl ▷ name_spells x n ▷⟨ refl ⟩ empty
  plain_operand x n true false h = absurd (false≢true (h refl))
  plain_operand x n false true h = dollar_behind (lit "&" refl) x n refl (lit ".value" refl)
  plain_operand x n false false h = name_spells x n ▷⟨ refl ⟩ empty

  shaped_operand : {t : Ty} {k : Shape} (x : List ℕ) → is_name x ≡ true → Shaped t k →
      Spells inside (pick_text (needs_indirect_abi items t) (bytes "&") [] ++ x ++ operand_end k (is_held items t))
      (operand_tokens (argument_operand (passing items t) x))
  unfolding needs_indirect_abi is_held
  shaped_operand x n (is_box t) = weaken closed (name_spells x n ▷⟨ refl ⟩ lit ".into_raw()" refl)
  shaped_operand x n (is_unique_ptr t) = weaken closed (name_spells x n ▷⟨ refl ⟩ lit ".release()" refl)
  shaped_operand x n (is_ref m t) = name_spells x n ▷⟨ refl ⟩ empty
  shaped_operand x n is_str = name_spells x n ▷⟨ refl ⟩ empty
  shaped_operand x n (is_slice m t) = name_spells x n ▷⟨ refl ⟩ empty
  shaped_operand x n (is_other t plain) =
      rw (plain _) (plain_operand x n (is_rust_string t) (needs_indirect_abi items t) (rust_string_indirect t))

  operand_spells : (a : Argument) → argument_fits (length items) a ≡ true →
      Spells inside (operand items a) (operand_tokens (operand_of items a))
  unfolding operand
  operand_spells a h = shaped_operand a.name (argument_name (length items) a h) (shaped a.type)

  receiver_spells : (b : Bool) →
      SpellsEach operand_tokens (pick b (bytes "*this" ∷ []) []) (pick b (Tree.receiver ∷ []) [])
  receiver_spells true = more (lit "*this" refl) none
  receiver_spells false = none

  operands_spell : (f : Function) → FunctionKept items f →
      SpellsEach operand_tokens (operands items f) (operands_of items f)
  unfolding operands operands_of slot
  operands_spell f g =
      each_append operand_tokens
      (each_append operand_tokens (receiver_spells (is_method f.form))
      (map_spells operand_tokens (argument_fits (length items)) (operand items) (operand_of items) operand_spells
      f.arguments g.arguments_fit))
      (map_spells operand_tokens (type_fits 8 (length items)) (λ t. bytes "&return$.value") slot_address_of
      (λ t h. lit "&return$.value" refl) (slot items f)
      (slot_fits (length items) (indirect_return items f f.return) f.return g.return_fits))

  -- ---- the end

  error_test_spells : (throws : Bool) →
      Spells closed
      (pick_text throws (bytes "  if (error$.ptr) {\n    throw ::rust::impl<::rust::Error>::error(error$);\n  }\n") [])
      (error_test_tokens throws)
  error_test_spells true = lit "  if (error$.ptr) {\n    throw ::rust::impl<::rust::Error>::error(error$);\n  }\n" refl
  error_test_spells false = empty

  slot_return_spells : (k : Shape) →
      Spells closed (bytes "  return " ++ slot_return k ++ bytes ";\n") (ending_tokens (slot_ending k))
  slot_return_spells (Write.ref m t) = lit "  return " refl ▷ lit "*return$.value" refl ▷⟨ refl ⟩ lit ";\n" refl
  slot_return_spells (Write.rust_box t) = lit "  return " refl ▷ lit "::std::move(return$.value)" refl ▷ lit ";\n" refl
  slot_return_spells (Write.unique_ptr t) = lit "  return " refl ▷ lit "::std::move(return$.value)" refl ▷ lit ";\n" refl
  slot_return_spells Write.str = lit "  return " refl ▷ lit "::std::move(return$.value)" refl ▷ lit ";\n" refl
  slot_return_spells Write.slice_ref = lit "  return " refl ▷ lit "::std::move(return$.value)" refl ▷ lit ";\n" refl
  slot_return_spells Write.other = lit "  return " refl ▷ lit "::std::move(return$.value)" refl ▷ lit ";\n" refl

  ending_spells : (b : Bool) (r : Ret) →
      Spells closed (gather (λ t. bytes "  return " ++ slot_return (shape t) ++ bytes ";\n") (returned_if b r))
      (ending_tokens (ending_of (returned_if b r)))
  unfolding gather
  ending_spells b none = empty
  ending_spells true (gives t) = slot_return_spells (shape t) ▷ empty
  ending_spells false (gives t) = empty

  -- ---- the body

  module _ (x : Item) (k : ItemKept items x) (f : Function) (g : FunctionKept items f) where
    returned : every (type_fits 8 (length items)) (slot items f) ≡ true
    unfolding slot
    returned = slot_fits (length items) (indirect_return items f f.return) f.return g.return_fits

    abbrev locals : List Tree.Local
    locals = gather (held_of items) f.arguments ++ map (room_of items) (slot items f)

    locals_spell : Spells closed
        (bytes " {\n" ++ gather (held_local items) f.arguments ++ bytes "  " ++ gather room_text (slot items f))
        (λ ts. quoted "{" (each_tokens local_tokens locals ts))
    locals_spell =
        as_tokens (λ ts. ap (quoted "{") (each_tokens_append local_tokens (gather (held_of items) f.arguments) _ ts))
        (lit " {\n" refl
        ▷ gather_spells local_tokens (argument_fits (length items)) (held_local items) (held_of items) held_spells
        f.arguments g.arguments_fit
        ▷ lit "  " refl
        ▷ gather_map_spells local_tokens (type_fits 8 (length items)) room_text (room_of items) room_spells
        (slot items f) returned)

    -- up to the called symbol
    call_begins : Spells closed
        (bytes " {\n" ++ gather (held_local items) f.arguments ++ bytes "  " ++ gather room_text (slot items f)
        ++ gather (λ t. bytes "return " ++ call_begin items t (shape t)) (direct items f)
        ++ pick_text f.throws (bytes "::rust::repr::PtrLen error$ = ") [])
        (λ ts. quoted "{" (each_tokens local_tokens locals (form_tokens (call_form f) ts)))
    unfolding direct
    call_begins =
        as_tokens (λ ts. ap (λ (u : List Token). quoted "{" (each_tokens local_tokens locals u)) (form_tokens_lem f ts))
        (locals_spell ▷ begins_spell (not (indirect_return items f f.return)) f.return g.return_fits
        ▷ error_spells f.throws)

    close_spells : Spells closed (gather (λ t. call_end (shape t)) (direct items f)) (close_tokens (call_form f))
    unfolding direct
    close_spells = as_tokens (close_tokens_lem f) (ends_spell (not (indirect_return items f f.return)) f.return)

    body_spells : Spells closed (shim_body items x f)
        (λ ts. quoted "{" (each_tokens local_tokens locals
        (call_tokens
        (record { form = call_form f; symbol = extern_fn items x.namespace f; operands = operands_of items f })
        (error_test_tokens f.throws (ending_tokens (ending_of (slot items f)) (quoted "}" ts))))))
    unfolding shim_body slot
    body_spells =
        call_begins ▷ extern_fn_spells items kept x k f g ▷⟨ refl ⟩ lit "(" refl
        ▷ list_spells operand_tokens (operands_spell f g) ▷⟨ refl ⟩ lit ")" refl ▷ close_spells
        ▷ lit ";\n" refl ▷ error_test_spells f.throws
        ▷ ending_spells (indirect_return items f f.return) f.return ▷ lit "}\n" refl

comments_spell : (free doxygen : Bool) (f : Function) (items : List Item) → FunctionKept items f →
    Spells closed (pick_text free (write_doc doxygen f.comment) [])
    (each_tokens comment_tokens (pick free (comments_of doxygen f.comment) []))
comments_spell true doxygen f items g = doc_spells doxygen f.comment g.lines_fit
comments_spell false doxygen f items g = empty

-- a shim of a text that is no header
pub shim_spells : (s : Sheet) → s.header ≡ false → Each (ItemKept s.items) s.items → (x : Item) →
    ItemKept s.items x → (f : Function) → FunctionKept s.items f →
    Spells closed (function_shim s x f) (shim_tokens (shim_tree s x f))
unfolding function_shim shim_body
shim_spells s e kept x k f g =
    rw e
    (comments_spell (is_free f.form) s.doxygen f s.items g ▷ signature_spells s.items kept x f k.cxx_name g
    ▷⟨ refl ⟩ body_spells s.items kept x k f g)
