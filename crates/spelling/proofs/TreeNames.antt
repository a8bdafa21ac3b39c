-- The names of the trees of a sheet's items are the sheet's, and `self`: they keep every rule that these keep.
use Rattle.std.proofs.Common.{◌≡◌, ℕ, Bool, true, false, not, ◌&&◌, ltb, leb, List, [], ◌∷◌, ◌++◌, map, length, refl}
use Rattle.lexical.specs.Bytes.{bytes, every}
use Rattle.lexical.proofs.BoolLaws.{both}
use Rattle.lexical.proofs.ByteLaws.{each_true, every_cons, every_append, every_snoc, every_split, every_weaken, every_map}
use Rattle.format.specs.Decode.{pick}
use Rattle.format.specs.declared.Pointer.TheVariants.{Ref, Ptr, SliceRef}
use Rattle.format.specs.Types.{Ty, atom, named, template, pointer, str, fn, array, Ret, none, gives, Tys, nil, cons}
use Rattle.format.specs.Sheet.{Name, Form, free, const_method, mut_method, associated, Argument, Function, function, Item}
use Rattle.format.specs.Sheet.{Sheet}
use Rattle.syntax.specs.Items.{item_at}
use Rattle.syntax.specs.Types.{needs_indirect_abi}
use Rattle.rules.specs.Rules.{gather, is_method, argument_names}
use Rattle.rules.proofs.EveryLaws.{every_gather}
use Rattle.decoded.specs.Fits.{count, parts_fit, parts_fit_ret, parts_fit_tys, type_fits, return_fits, argument_fits, form_fits}
use Rattle.decoded.specs.Names.{body_names, item_names, names_keep}
use Rattle.decoded.proofs.Decoded.{every_at, fits_parts}
use Rattle.decoded.proofs.Kept.{argument_type, FunctionKept}
use Rattle.bridge.specs.Write.{indirect_return, Shape, returned_if, slot, is_cxx_main, is_held, direct}
use Rattle.grammar.specs.Types as Cxx
use Rattle.grammar.specs.Types.{CxxType, Suffix, CxxTypes, suffixed}
use Rattle.grammar.specs.Tree as Tree
use Rattle.grammar.specs.Tree.{Measure}
use Rattle.agreement.specs.Agreement as Agreement
use Rattle.agreement.specs.Agreement.{head_parts, Passing, passing, argument_operand}
use Rattle.agreement.specs.Names.{names_of_type, names_of_base, names_of_types, names_of_result, names_of_parameter}
use Rattle.agreement.specs.Names.{names_of_declaration, names_of_layout, names_of_local, names_of_operand}
use Rattle.agreement.specs.Names.{names_of_form, names_of_call, names_of_shim}
use Rattle.spelling.specs.TypeTree.{item_path, with_suffix, pointer_to, cxx_type, fn_tree, cxx_types}
use Rattle.spelling.specs.DeclarationTree.{direct_result, direct_result_of, declared_result, declared_receiver}
use Rattle.spelling.specs.DeclarationTree.{declared_type, declared_argument, slot_tree, declared_slot}
use Rattle.spelling.specs.DeclarationTree.{declared_parameters, declaration_of, layout_declaration_of}
use Rattle.spelling.specs.DeclarationTree.{layout_definition_of}
use Rattle.spelling.specs.ShimTree.{result_of, head_of, argument_of, held_of, room_of, direct_form, return_form}
use Rattle.spelling.specs.ShimTree.{operand_of, slot_address_of, operands_of, shim_tree}
use Rattle.spelling.proofs.Shapes.{Shaped, is_box, is_unique_ptr, is_ref, is_str, is_slice, is_other, shaped}
use Rattle.spelling.proofs.DeclarationSpelling.{slot_fits}

-- ---- lists

every_none : {A : Type 0} (test : A → Bool) → every test [] ≡ true
unfolding every
every_none test = refl

picked : {A : Type 0} (test : A → Bool) (b : Bool) (x y : A) → test x ≡ true → test y ≡ true → test (pick b x y) ≡ true
picked test true x y h g = h
picked test false x y h g = g

-- ---- the names of an item

module _ (rule : Name → Bool) where
  pub record ItemNamed (x : Item) : Type 0 where
    pub namespace : every rule x.namespace ≡ true
    pub cxx : rule x.cxx ≡ true
    pub function : (f : Function) → x.body ≡ function f → every rule (f.rust ∷ argument_names f) ≡ true

  pub item_named_lem : (x : Item) → every rule (item_names x) ≡ true → ItemNamed x
  unfolding every gather body_names item_names
  item_named_lem x h =
      let q = every_split rule x.namespace (x.cxx ∷ body_names x.body) h in
      let p = every_cons rule x.cxx (body_names x.body) q.1 in
      record {
        namespace = q.0;
        cxx = p.0;
        function = λ f e. (every_split rule (f.rust ∷ argument_names f) [] (rw e at p.1)).0;
      }

-- a `&` or `*` brings no name
suffix_names : (s : Suffix) (x : CxxType) → names_of_type (with_suffix s x) ≡ names_of_type x
unfolding names_of_type
suffix_names s (suffixed base suffixes) = refl

pub at_named : (rule : Name → Bool) (items : List Item) → names_keep rule items ≡ true → (i : ℕ) →
    ltb i (length items) ≡ true → ItemNamed rule (item_at items i)
unfolding names_keep item_at
at_named rule items all i h =
    item_named_lem rule (item_at items i) (every_at (λ x. every rule (item_names x)) items i _ all h)

module _ (rule : Name → Bool) (self : rule (bytes "self") ≡ true) (s : Sheet)
    (sheet_keeps : names_keep rule s.items ≡ true) where
  abbrev items : List Item
  items = s.items

  -- the names of a part keep the rule
  abbrev keep : {A : Type 0} → (A → List Name) → A → Bool
  keep names x = every rule (names x)

  all_names : {A : Type 0} (names : A → List Name) (xs : List A) → every (keep names) xs ≡ true →
      every rule (gather names xs) ≡ true
  all_names names xs h =
      every_gather (λ x. keep names x ≡ true) rule names (λ x e. e) xs (each_true (keep names) xs h)

  path_names : (i : ℕ) → ltb i (length items) ≡ true → every rule (item_path (item_at items i)) ≡ true
  path_names i h =
      let x = item_at items i in
      let n = at_named rule items sheet_keeps i h in every_snoc rule x.namespace x.cxx n.namespace n.cxx

  -- ---- types

  abbrev type_keeps : Ty → Bool
  type_keeps t = keep names_of_type (cxx_type items t)

  pointed : (m : Bool) (x : CxxType) → keep names_of_type x ≡ true → keep names_of_type (pointer_to m x) ≡ true
  pointed m x h = rw (suffix_names (Cxx.pointer (not m)) x) h

  mutual
    unfolding every names_of_type parts_fit cxx_type

    type_names : (t : Ty) → parts_fit (length items) t ≡ true → type_keeps t ≡ true
    type_names (atom a) h = refl
    type_names (named i) h = path_names i h
    type_names (template k t) h = type_names t h
    type_names (pointer Ref m t) h = rw (suffix_names (Cxx.reference (not m)) (cxx_type items t)) (type_names t h)
    type_names (pointer Ptr m t) h = pointed m (cxx_type items t) (type_names t h)
    type_names (pointer SliceRef m t) h = type_names t h
    type_names str h = refl
    type_names (fn r ts) h =
        let q = both (leb (count ts) 15) (parts_fit_ret (length items) r && parts_fit_tys (length items) ts) h in
        let g = both (parts_fit_ret (length items) r) (parts_fit_tys (length items) ts) q.1 in
        fn_names r (cxx_types items ts) g.0 (types_names ts g.1)
    type_names (array t n) h = type_names t (both (ltb n 4294967296) (parts_fit (length items) t) h).1

    fn_names : (r : Ret) (xs : CxxTypes) → parts_fit_ret (length items) r ≡ true → keep names_of_types xs ≡ true →
        keep names_of_base (fn_tree items r xs) ≡ true
    fn_names none xs h g = g
    fn_names (gives t) xs h g =
        every_append rule (names_of_type (cxx_type items t)) (names_of_types xs) (type_names t h) g

    types_names : (ts : Tys) → parts_fit_tys (length items) ts ≡ true → keep names_of_types (cxx_types items ts) ≡ true
    types_names nil h = refl
    types_names (cons t ts) h =
        let q = both (parts_fit (length items) t) (parts_fit_tys (length items) ts) h in
        every_append rule (names_of_type (cxx_type items t)) (names_of_types (cxx_types items ts)) (type_names t q.0)
        (types_names ts q.1)

  fit_names : (t : Ty) → type_fits 8 (length items) t ≡ true → type_keeps t ≡ true
  fit_names t h = type_names t (fits_parts 8 (length items) t h)

  -- what stands for a type where it is declared, in the slot, as a direct result and around the call
  record ShapeNamed (t : Ty) (k : Shape) : Type 0 where
    declared : keep names_of_type (declared_type items t k) ≡ true
    held : keep names_of_type (slot_tree items t k) ≡ true
    result : keep names_of_result (direct_result items t k) ≡ true
    form : keep names_of_form (direct_form items t k) ≡ true

  shape_named : {t : Ty} {k : Shape} → Shaped t k → type_keeps t ≡ true → ShapeNamed t k
  unfolding every names_of_type cxx_type
  shape_named (is_box t) h =
      let p = pointed true (cxx_type items t) h in record { declared = p; held = h; result = p; form = h }
  shape_named (is_unique_ptr t) h =
      let p = pointed true (cxx_type items t) h in record { declared = p; held = h; result = p; form = h }
  shape_named (is_ref m t) h =
      let p = pointed m (cxx_type items t) (rw (suffix_names (Cxx.reference (not m)) (cxx_type items t)) at h) in
      record { declared = h; held = p; result = p; form = refl }
  shape_named is_str h = record { declared = h; held = h; result = refl; form = refl }
  shape_named (is_slice m t) h = record { declared = h; held = h; result = refl; form = h }
  shape_named (is_other t plain) h = record { declared = h; held = h; result = h; form = refl }

  -- ---- parameters, locals and operands

  abbrev argument_keeps : Argument → Bool
  argument_keeps a = rule a.name && type_keeps a.type

  arguments_keep : (xs : List Argument) → every rule (map (λ a. a.name) xs) ≡ true →
      every (argument_fits (length items)) xs ≡ true → every argument_keeps xs ≡ true
  unfolding every
  arguments_keep [] n h = refl
  arguments_keep (a ∷ xs) n h =
      let p = both (rule a.name) _ n in
      let q = every_cons (argument_fits (length items)) a xs h in
      rw (p.0, fit_names a.type (argument_type (length items) a q.0)) (arguments_keep xs p.1 q.1)

  receiver_names : (form : Form) → form_fits (length items) form ≡ true →
      every (keep names_of_parameter) (declared_receiver items form) ≡ true
  unfolding every names_of_type form_fits
  receiver_names free h = refl
  receiver_names (const_method i) h = rw (every_snoc rule (item_path (item_at items i)) _ (path_names i h) self)
  receiver_names (mut_method i) h = rw (every_snoc rule (item_path (item_at items i)) _ (path_names i h) self)
  receiver_names (associated i) h = refl

  declared_names : (a : Argument) → argument_keeps a ≡ true → keep names_of_parameter (declared_argument items a) ≡ true
  unfolding declared_argument
  declared_names a h =
      let q = both (rule a.name) (type_keeps a.type) h in
      let d = (shape_named (shaped a.type) q.1).declared in
      every_snoc rule _ a.name
      (picked (keep names_of_type) (needs_indirect_abi items a.type) _ _ (pointed true _ d) d) q.0

  argument_names_lem : (a : Argument) → argument_keeps a ≡ true → keep names_of_parameter (argument_of items a) ≡ true
  argument_names_lem a h =
      let q = both (rule a.name) (type_keeps a.type) h in
      every_snoc rule (names_of_type (cxx_type items a.type)) a.name q.1 q.0

  held_names : (a : Argument) → argument_keeps a ≡ true → every (keep names_of_local) (held_of items a) ≡ true
  unfolding every
  held_names a h = picked (every (keep names_of_local)) (is_held items a.type) _ _ (rw (argument_names_lem a h)) refl

  operand_names : (a : Argument) → argument_keeps a ≡ true → keep names_of_operand (operand_of items a) ≡ true
  unfolding every
  operand_names a h = go (passing items a.type) (both (rule a.name) (type_keeps a.type) h).0
    where
      go : (p : Passing) → rule a.name ≡ true → keep names_of_operand (argument_operand p a.name) ≡ true
      go Agreement.direct e = rw e
      go Agreement.box e = rw e
      go Agreement.unique_ptr e = rw e
      go Agreement.rust_string e = rw e
      go Agreement.other_indirect e = rw e

  receiver_operand : (b : Bool) → every (keep names_of_operand) (pick b (Tree.receiver ∷ []) []) ≡ true
  unfolding every
  receiver_operand b = picked (every (keep names_of_operand)) b (Tree.receiver ∷ []) [] refl refl

  head_names_lem : (x : Item) → rule x.cxx ≡ true → (form : Form) → form_fits (length items) form ≡ true →
      keep head_parts (head_of items x form) ≡ true
  unfolding every form_fits
  head_names_lem x n free h = rw n
  head_names_lem x n (const_method i) h = rw ((at_named rule items sheet_keeps i h).cxx, n)
  head_names_lem x n (mut_method i) h = rw ((at_named rule items sheet_keeps i h).cxx, n)
  head_names_lem x n (associated i) h = rw ((at_named rule items sheet_keeps i h).cxx, n)

  -- ---- an item's function

  -- what it returns, in its declaration and in its shim
  return_names : (r : Ret) → return_fits (length items) r ≡ true →
      (keep names_of_result (direct_result_of items r) ≡ true) × (keep names_of_result (result_of items r) ≡ true)
  unfolding every return_fits
  return_names none h = (refl, refl)
  return_names (gives t) h = ((shape_named (shaped t) (fit_names t h)).result, fit_names t h)

  form_names : (ts : List Ty) → every type_keeps ts ≡ true → keep names_of_form (return_form items ts) ≡ true
  unfolding every
  form_names [] h = refl
  form_names (t ∷ ts) h = (shape_named (shaped t) (every_cons type_keeps t ts h).0).form

  module _ (x : Item) (h : every rule (item_names x) ≡ true) (f : Function) (e : x.body ≡ function f)
      (g : FunctionKept items f) where
    arguments : every argument_keeps f.arguments ≡ true
    arguments =
        arguments_keep f.arguments
        (every_cons rule f.rust (argument_names f) ((item_named_lem rule x h).function f e)).1 g.arguments_fit

    returned : (b : Bool) → every type_keeps (returned_if b f.return) ≡ true
    returned b =
        every_weaken (type_fits 8 (length items)) type_keeps fit_names _
        (slot_fits (length items) b f.return g.return_fits)

    -- the slot's part stands last
    parts_names : {A : Type 0} (names : A → List Name) (front middle : List A) (back : Ty → A) →
        every (keep names) front ≡ true → every (keep names) middle ≡ true →
        ((t : Ty) → type_keeps t ≡ true → keep names (back t) ≡ true) →
        every rule (gather names (front ++ middle ++ map back (slot items f))) ≡ true
    unfolding slot
    parts_names names front middle back p q step =
        all_names names (front ++ middle ++ map back (slot items f))
        (every_append (keep names) (front ++ middle) _ (every_append (keep names) front middle p q)
        (every_map type_keeps (keep names) back step (slot items f) (returned (indirect_return items f f.return))))

    pub declaration_names : every rule (names_of_declaration (declaration_of items x f)) ≡ true
    unfolding names_of_declaration declared_result declared_parameters
    declaration_names =
        let P = keep names_of_parameter in
        let result =
        picked (keep names_of_result) f.throws Tree.ptr_len _ (every_none rule)
        (picked (keep names_of_result) (indirect_return items f f.return) Tree.void (direct_result_of items f.return)
        (every_none rule) (return_names f.return g.return_fits).0) in
        let parameters =
        parts_names names_of_parameter (declared_receiver items f.form) _ (declared_slot items)
        (receiver_names f.form g.form_fits)
        (every_map argument_keeps P (declared_argument items) declared_names f.arguments arguments)
        (λ t k. pointed true _ (shape_named (shaped t) k).held) in
        every_append rule _ _ result parameters

    pub shim_names : every rule (names_of_shim (shim_tree s x f)) ≡ true
    unfolding names_of_shim names_of_call operands_of direct
    shim_names =
        let P = keep names_of_parameter in
        let result =
        picked (keep names_of_result) (is_cxx_main x f) Tree.int (result_of items f.return) (every_none rule)
        (return_names f.return g.return_fits).1 in
        let head = head_names_lem x (item_named_lem rule x h).cxx f.form g.form_fits in
        let parameters =
        all_names names_of_parameter _
        (every_map argument_keeps P (argument_of items) argument_names_lem f.arguments arguments) in
        let locals =
        parts_names names_of_local [] _ (room_of items) (every_none (keep names_of_local))
        (every_gather (λ a. argument_keeps a ≡ true) (keep names_of_local) (held_of items) held_names f.arguments
        (each_true argument_keeps f.arguments arguments))
        (λ t k. (shape_named (shaped t) k).held) in
        let form =
        picked (keep names_of_form) f.throws Tree.error (return_form items (direct items f)) (every_none rule)
        (form_names (direct items f) (returned (not (indirect_return items f f.return)))) in
        let operands =
        parts_names names_of_operand (pick (is_method f.form) (Tree.receiver ∷ []) []) _ slot_address_of
        (receiver_operand (is_method f.form))
        (every_map argument_keeps (keep names_of_operand) (operand_of items) operand_names f.arguments arguments)
        (λ t k. every_none rule) in
        every_append rule _ _
        (every_append rule _ _ (every_append rule _ _ (every_append rule _ _ result head) parameters) locals)
        (every_append rule _ _ form operands)

-- ---- layouts

module _ (rule : Name → Bool) (x : Item) where
  pub layout_declaration_names : (m : Measure) → every rule (names_of_declaration (layout_declaration_of x m)) ≡ true
  unfolding every gather names_of_type names_of_declaration
  layout_declaration_names m = refl

  pub layout_definition_names : every rule (item_names x) ≡ true → (m : Measure) →
      every rule (names_of_layout (layout_definition_of x m)) ≡ true
  unfolding every
  layout_definition_names h m = rw (item_named_lem rule x h).cxx
