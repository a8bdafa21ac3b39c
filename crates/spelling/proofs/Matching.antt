-- A function's declaration and shim agree with the sheet and with each other.
use Rattle.std.proofs.Common.{◌≡◌, ℕ, Bool, true, false, not, ◌&&◌, ◌||◌, List, [], ◌∷◌, ◌++◌, map, sym, refl, ap, ◌∙◌, ap₂, append_assoc}
use mathlib.Core.List.{map-append}
use mathlib.Core.Bool.{and-false}
use Rattle.lexical.specs.Bytes.{bytes, same, member}
use Rattle.lexical.proofs.BoolLaws.{neither, or_right, fails_too}
use Rattle.lexical.proofs.ByteLaws.{same_eq, same_refl}
use Rattle.format.specs.Decode.{pick}
use Rattle.format.specs.Types.{Ty, Ret, none, gives}
use Rattle.format.specs.Sheet.{Name, Form, free, const_method, mut_method, associated, Argument, Function, Item, Sheet}
use Rattle.syntax.specs.Items.{item_at, self_type}
use Rattle.syntax.specs.Types.{needs_indirect_abi}
use Rattle.rules.specs.Rules.{any, twice, argument_names, is_method, is_cxx_vector, unfit}
use Rattle.decoded.proofs.Kept.{FunctionKept}
use Rattle.bridge.specs.Write as Write
use Rattle.bridge.specs.Write.{indirect_return, slot}
use Rattle.grammar.specs.Tree as Tree
use Rattle.grammar.specs.Tree.{Operand}
use Rattle.agreement.specs.Agreement.{slot_names, slot_names_of, parameter_names, head_names, parameter_name}
use Rattle.agreement.specs.Agreement.{head_parts, argument_operands, fitting, only, Matches}
use Rattle.spelling.specs.DeclarationTree.{declared_receiver, declared_argument, declared_slot, declared_parameters}
use Rattle.spelling.specs.DeclarationTree.{declaration_of}
use Rattle.spelling.specs.ShimTree.{head_of, argument_of, operand_of, slot_address_of, operands_of, shim_tree}

map_parts : {A B : Type 0} (f : A → B) (a b c : List A) {x y z : List B} → map f a ≡ x → map f b ≡ y → map f c ≡ z →
    map f (a ++ b ++ c) ≡ x ++ y ++ z
map_parts f a b c p q r = map-append f (a ++ b) c ∙ ap₂ ◌++◌ (map-append f a b ∙ ap₂ ◌++◌ p q) r

-- ---- equal names

same_sym : (s t : List ℕ) → same s t ≡ false → same t s ≡ false
same_sym s t h = fails_too (same t s) (same s t) (λ e. rw (same_eq t s e) (same_refl s)) h

abbrev names : List Argument → List Name
names xs = map (λ a. a.name) xs

module _ (a : Argument) (after : List Argument) where
  member_at : (before : List Argument) → member a.name (names (before ++ (a ∷ after))) ≡ true
  unfolding member
  member_at [] = rw (same_refl a.name)
  member_at (b ∷ before) = or_right (same a.name b.name) _ (member_at before)

  any_at : (test : Name → Bool) (before : List Argument) → any test (names (before ++ (a ∷ after))) ≡ false →
      test a.name ≡ false
  unfolding any
  any_at test [] h = (neither (test a.name) _ h).0
  any_at test (b ∷ before) h = any_at test before (neither (test b.name) _ h).1

-- ---- one operand for each argument

module _ (items : List Item) where
  no_operand : (x : Name) (xs : List Argument) → any (same x) (names xs) ≡ false → argument_operands items x xs ≡ []
  unfolding any argument_operands
  no_operand x [] h = refl
  no_operand x (a ∷ xs) h =
      let q = neither (same x a.name) _ h in rw q.0 (no_operand x xs q.1)

  one_operand : (before : List Argument) (a : Argument) (after : List Argument) →
      twice same (names (before ++ (a ∷ after))) ≡ false →
      argument_operands items a.name (before ++ (a ∷ after)) ≡ only (operand_of items a)
  unfolding twice argument_operands
  one_operand [] a after h =
      rw (same_refl a.name) (ap (λ (os : List Operand). operand_of items a ∷ os)
      (no_operand a.name after (neither (any (same a.name) (names after)) _ h).0))
  one_operand (b ∷ before) a after h =
      let q = neither (any (same b.name) (names (before ++ (a ∷ after)))) _ h in
      rw (same_sym b.name a.name (any_at a after (same b.name) before q.0))
      (one_operand before a after q.1)

  -- an argument's name is one of the head's, so that it is no receiver
  argument_fits_lem : (all : List Argument) (heads : List Name) → heads ≡ names all → twice same (names all) ≡ false →
      (before : List Argument) (a : Argument) (after : List Argument) → all ≡ before ++ (a ∷ after) →
      pick (same a.name (bytes "self") && not (member a.name heads)) (Tree.receiver ∷ [])
      (argument_operands items a.name all) ≡
      only (operand_of items a)
  argument_fits_lem all heads e h before a after p =
      let m : member a.name heads ≡ true = rw (e, p) (member_at a after before) in
      rw (m, and-false (same a.name (bytes "self")), p) (one_operand before a after (rw p at h))

  -- ---- the operands fit the parameters

  module _ (f : Function) (g : FunctionKept items f) (heads : List Name) (e : heads ≡ argument_names f) where
    -- no argument of a method is named `self`
    no_self : is_method f.form ≡ true → member (bytes "self") heads ≡ false
    unfolding any member unfit
    no_self h = rw e (go f.arguments g.fitting)
      where
        go : (xs : List Argument) → any (unfit items f) xs ≡ false → member (bytes "self") (names xs) ≡ false
        go [] u = refl
        go (a ∷ xs) u =
            let q = neither (unfit items f a) (any (unfit items f) xs) u in
            let p : (is_method f.form && same a.name (bytes "self")) ≡ false =
            (neither (is_cxx_vector a.type) _ (neither _ _ q.0).0).1 in
            rw (same_sym a.name (bytes "self") (rw h at p)) (go xs q.1)

    receiver_fits : (form : Form) → (is_method form ≡ true → member (bytes "self") heads ≡ false) →
        map (fitting items f heads) (declared_receiver items form) ≡
        map only (pick (is_method form) (Tree.receiver ∷ []) [])
    unfolding same fitting
    receiver_fits free h = refl
    receiver_fits (const_method i) h = rw (h refl)
    receiver_fits (mut_method i) h = rw (h refl)
    receiver_fits (associated i) h = refl

    arguments_fit_lem : (before xs : List Argument) → f.arguments ≡ before ++ xs →
        map (fitting items f heads) (map (declared_argument items) xs) ≡ map only (map (operand_of items) xs)
    unfolding fitting declared_argument
    arguments_fit_lem before [] p = refl
    arguments_fit_lem before (a ∷ xs) p =
        ap₂ (λ (o : List Operand) (os : List (List Operand)). o ∷ os)
        (argument_fits_lem f.arguments heads e g.distinct before a xs p)
        (arguments_fit_lem (before ++ (a ∷ [])) xs (p ∙ sym (append_assoc before (a ∷ []) xs)))

    slots_fit : (ts : List Ty) →
        map (fitting items f heads) (map (declared_slot items) ts) ≡ map only (map slot_address_of ts)
    unfolding fitting
    slots_fit [] = refl
    slots_fit (t ∷ ts) = ap (λ (os : List (List Operand)). only Tree.slot_address ∷ os) (slots_fit ts)

    operands_fit : map (fitting items f heads) (declared_parameters items f) ≡ map only (operands_of items f)
    unfolding declared_parameters operands_of
    operands_fit =
        let slots = slot items f in
        map_parts (fitting items f heads) (declared_receiver items f.form)
        (map (declared_argument items) f.arguments)
        (map (declared_slot items) slots) (receiver_fits f.form no_self) (arguments_fit_lem [] f.arguments refl)
        (slots_fit slots)
        ∙ sym (map_parts only (pick (is_method f.form) (Tree.receiver ∷ []) []) (map (operand_of items) f.arguments)
        (map slot_address_of slots) refl refl refl)

  -- ---- the parameters are the function's

  receiver_name : (form : Form) →
      map parameter_name (declared_receiver items form) ≡ pick (is_method form) (bytes "self" ∷ []) []
  receiver_name free = refl
  receiver_name (const_method i) = refl
  receiver_name (mut_method i) = refl
  receiver_name (associated i) = refl

  declared_names : (xs : List Argument) → map parameter_name (map (declared_argument items) xs) ≡ names xs
  unfolding declared_argument
  declared_names [] = refl
  declared_names (a ∷ xs) = ap (λ (ns : List Name). a.name ∷ ns) (declared_names xs)

  head_names_lem : (xs : List Argument) → map parameter_name (map (argument_of items) xs) ≡ names xs
  head_names_lem [] = refl
  head_names_lem (a ∷ xs) = ap (λ (ns : List Name). a.name ∷ ns) (head_names_lem xs)

  slot_name : (f : Function) →
      map parameter_name (map (declared_slot items) (slot items f)) ≡ slot_names_of items f.throws f.return
  unfolding slot indirect_return
  slot_name f = go f.return
    where
      one : (throws indirect : Bool) (t : Ty) →
          map parameter_name (map (declared_slot items) (pick (throws || indirect) (t ∷ []) [])) ≡
          slot_names throws indirect
      one true indirect t = refl
      one false true t = refl
      one false false t = refl

      go : (r : Ret) →
          map parameter_name (map (declared_slot items) (Write.returned_if (indirect_return items f r) r)) ≡
          slot_names_of items f.throws r
      go none = refl
      go (gives t) = one f.throws (needs_indirect_abi items t) t

  parameter_names_lem : (f : Function) → map parameter_name (declared_parameters items f) ≡ parameter_names items f
  unfolding declared_parameters parameter_names
  parameter_names_lem f =
      map_parts parameter_name (declared_receiver items f.form) (map (declared_argument items) f.arguments)
      (map (declared_slot items) (slot items f)) (receiver_name f.form) (declared_names f.arguments) (slot_name f)

  head_parts_lem : (x : Item) (f : Function) →
      head_parts (head_of items x f.form) ≡
      head_names items (record { namespace = x.namespace; cxx = x.cxx; function = f })
  unfolding head_names
  head_parts_lem x f = go f.form
    where
      go : (form : Form) →
          head_parts (head_of items x form) ≡ map (λ i. (item_at items i).cxx) (self_type form) ++ (x.cxx ∷ [])
      go free = refl
      go (const_method i) = refl
      go (mut_method i) = refl
      go (associated i) = refl

-- a function's declaration and shim, each in the function's namespace
pub function_matches : (s : Sheet) (x : Item) (f : Function) → FunctionKept s.items f →
    Matches s.items (record { namespace = x.namespace; cxx = x.cxx; function = f })
    (record { namespace = x.namespace; declaration = declaration_of s.items x f })
    (record { namespace = x.namespace; shim = shim_tree s x f })
function_matches s x f g =
    record {
      declared_in = refl;
      defined_in = refl;
      declares = refl;
      parameters = parameter_names_lem s.items f;
      head = head_parts_lem s.items x f;
      arguments = head_names_lem s.items f.arguments;
      calls = refl;
      operands =
          operands_fit s.items f g (map parameter_name (map (argument_of s.items) f.arguments))
          (head_names_lem s.items f.arguments);
    }
