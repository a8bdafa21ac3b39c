-- Texts and their readings, by computation.
use Rattle.std.proofs.Common.{◌≡◌, ℕ, zero, suc, Bool, true, false, List, [], ◌∷◌, ◌++◌, refl, subst}
use Rattle.lexical.specs.Bytes.{bytes, same}
use Rattle.grammar.specs.Types.{Name, bool, usize, u32, box, reference, CxxType, suffixed, atom, full, template}
use Rattle.grammar.specs.Types.{array, void_fn, CxxTypes, nil, cons}
use Rattle.grammar.specs.Tree.{void, int, value, Parameter, named, slot, size, align, free, Operand, receiver, direct}
use Rattle.grammar.specs.Tree.{slot_address, bare, returned, Call}
use Rattle.grammar.specs.Tree.{in_from_raw, no_return, Item, declares, defines, shim, namespace, extern_c, Body, body_end}
use Rattle.grammar.specs.Tree.{item, block, Forward}
use Rattle.grammar.specs.Tree.{struct_line, forward_end, line, bare_namespace, Text, text}
use Rattle.grammar.specs.Rules
use Rattle.grammar.specs.Reading.{Reading, OneReading}
use Rattle.grammar.specs.Tokens.{Closings}
use Rattle.grammar.proofs.Checked.{closing, checked}
use Rattle.grammar.proofs.Computing.{computes}
use Rattle.grammar.proofs.Forms.{plain_shim, forms_tree, forms_closings, forms}
use Rattle.grammar.proofs.Unique.{one_reading}

-- document 01's worked text, over the parameters and operands of its function

abbrev pub mill : Name
mill = bytes "mill"

abbrev pub sizeof : Name
sizeof = bytes "mill$cxxbridge1$205$Job$operator$sizeof"

abbrev pub alignof : Name
alignof = bytes "mill$cxxbridge1$205$Job$operator$alignof"

abbrev pub count : Name
count = bytes "mill$cxxbridge1$205$count"

abbrev pub job : Parameter
job = named (suffixed (full (mill ∷ bytes "Job" ∷ [])) (reference true ∷ [])) (bytes "job")

abbrev pub tree : List Parameter → List Operand → Text
tree parameters operands =
    text (bare_namespace mill (line (struct_line (bytes "Job")) forward_end) forward_end)
    (block (namespace mill)
    (block extern_c
    (item (declares (record { result = value (suffixed (atom usize) []); symbol = sizeof; parameters = []; noexcept = true }))
    (item (declares (record { result = value (suffixed (atom usize) []); symbol = alignof; parameters = []; noexcept = true }))
    (item (declares (record { result = value (suffixed (atom u32) []); symbol = count; parameters = parameters; noexcept = true }))
    body_end)))
    (item (defines (record { owner = bytes "Job"; measure = size; symbol = sizeof }))
    (item (defines (record { owner = bytes "Job"; measure = align; symbol = alignof }))
    (item (shim (record {
      comments = [];
      result = value (suffixed (atom u32) []);
      head = free (bytes "count");
      parameters = parameters;
      is_const = false;
      noexcept = true;
      locals = [];
      call = record { form = returned; symbol = count; operands = operands };
      error_test = false;
      ending = no_return;
    }))
    body_end))))
    body_end)

abbrev pub lines : List ℕ → List ℕ → List ℕ
lines parameters operands =
    bytes "namespace mill {\n" ++
    bytes "  struct Job;\n" ++
    bytes "}\n" ++
    bytes "\n" ++
    bytes "namespace mill {\n" ++
    bytes "extern \"C\" {\n" ++
    bytes "::std::size_t mill$cxxbridge1$205$Job$operator$sizeof() noexcept;\n" ++
    bytes "::std::size_t mill$cxxbridge1$205$Job$operator$alignof() noexcept;\n" ++
    bytes "\n" ++
    bytes "::std::uint32_t mill$cxxbridge1$205$count(" ++ parameters ++ bytes ") noexcept;\n" ++
    bytes "} // extern \"C\"\n" ++
    bytes "\n" ++
    bytes "::std::size_t Job::layout::size() noexcept {\n" ++
    bytes "  return mill$cxxbridge1$205$Job$operator$sizeof();\n" ++
    bytes "}\n" ++
    bytes "\n" ++
    bytes "::std::size_t Job::layout::align() noexcept {\n" ++
    bytes "  return mill$cxxbridge1$205$Job$operator$alignof();\n" ++
    bytes "}\n" ++
    bytes "\n" ++
    bytes "::std::uint32_t count(" ++ parameters ++ bytes ") noexcept {\n" ++
    bytes "  return mill$cxxbridge1$205$count(" ++ operands ++ bytes ");\n" ++
    bytes "}\n" ++
    bytes "} // namespace mill\n"

abbrev pub worked : List ℕ
worked = lines (bytes "::mill::Job const &job") (bytes "job")

abbrev pub worked_tree : Text
worked_tree = tree (job ∷ []) (direct (bytes "job") ∷ [])

-- of both texts
abbrev mill_closings : Closings worked_tree
unfolding same
mill_closings = (closing (namespace mill) " namespace mill" refl, (closing extern_c " extern \"C\"" refl, tt, tt), tt)

-- with one more argument, and the two operands swapped

abbrev pub swapped : List ℕ
swapped = lines (bytes "::mill::Job const &job, ::std::uint32_t more") (bytes "more, job")

abbrev pub swapped_tree : Text
swapped_tree =
    tree (job ∷ named (suffixed (atom u32) []) (bytes "more") ∷ []) (direct (bytes "more") ∷ direct (bytes "job") ∷ [])

-- Namespaces without content make a text with two readings: the first may belong to the forward part, and then the
-- comment is the shim's; or to the body, and then the comment closes it.

abbrev pub twofold : List ℕ
twofold = bytes "namespace a { } // namespace a\nvoid f() { g(); }\n"

abbrev shim_after : List (List ℕ) → Body
shim_after comments = item (plain_shim comments [] (record { form = bare; symbol = bytes "g"; operands = [] })) body_end

abbrev pub in_forward : Text
in_forward = text (bare_namespace (bytes "a") forward_end forward_end) (shim_after (bytes " namespace a" ∷ []))

abbrev pub in_body : Text
in_body = text forward_end (block (namespace (bytes "a")) body_end (shim_after []))

HasForward : Text → Type 0
HasForward (text forward_end b) = ⊥
HasForward (text (line l after) b) = Unit {0}
HasForward (text (bare_namespace x inside after) b) = Unit {0}

-- at and over the limits

abbrev boxes : ℕ → CxxType
boxes zero = suffixed (atom bool) []
boxes (suc n) = suffixed (template box (boxes n)) []

abbrev types : ℕ → CxxTypes
types zero = nil
types (suc n) = cons (boxes 0) (types n)

abbrev copies : {X : Type 0} → ℕ → X → List X
copies zero x = []
copies (suc n) x = x ∷ copies n x

abbrev nested : ℕ → Body
nested zero = body_end
nested (suc n) = block (namespace (bytes "a")) (nested n) body_end

abbrev nested_forward : ℕ → Forward
nested_forward zero = forward_end
nested_forward (suc n) = bare_namespace (bytes "a") (nested_forward n) forward_end

abbrev declares_main : Item
declares_main = declares (record { result = int; symbol = bytes "main"; parameters = []; noexcept = true })

abbrev declares_with : List Parameter → Item
declares_with parameters = declares (record { result = void; symbol = bytes "g"; parameters = parameters; noexcept = true })

abbrev call_with : List Operand → Call
call_with operands = record { form = bare; symbol = bytes "g"; operands = operands }

-- n arguments

abbrev x_parameters : ℕ → List Parameter
x_parameters n = copies n (named (boxes 0) (bytes "x"))

abbrev x_operands : ℕ → List Operand
x_operands n = copies n (direct (bytes "x"))

abbrev self : Parameter
self = named (boxes 0) (bytes "self")

abbrev shim_with : ℕ → Item
shim_with n = plain_shim [] (x_parameters n) (call_with [])

-- the first passes and the second does not
abbrev Limit : Bool → Bool → Type 0
Limit within over = (within ≡ true) × (over ≡ false)

abbrev DeclaredLimit : List Parameter → List Parameter → Type 0
DeclaredLimit within over = Limit (Rules.item_ok 0 true (declares_with within)) (Rules.item_ok 0 true (declares_with over))

abbrev CallLimit : List Operand → List Operand → Type 0
CallLimit within over = Limit (Rules.call_ok (call_with within)) (Rules.call_ok (call_with over))

pub record Limits : Type 0 where
  pub levels : Limit (Rules.type_ok 8 (boxes 7)) (Rules.type_ok 8 (boxes 8))
  pub declared_levels : Limit (Rules.declared_ok (named (boxes 8) (bytes "x"))) (Rules.declared_ok (named (boxes 9) (bytes "x")))
  pub wrapped_levels : Limit (Rules.form_ok (in_from_raw (boxes 6))) (Rules.form_ok (in_from_raw (boxes 7)))
  pub fn_arguments : Limit (Rules.base_ok (void_fn (types 15))) (Rules.base_ok (void_fn (types 16)))
  pub array_length : Limit (Rules.base_ok (array (boxes 0) 4294967295)) (Rules.base_ok (array (boxes 0) 4294967296))
  pub full_name : Limit (Rules.full_name_ok (copies 8 (bytes "a"))) (Rules.full_name_ok (copies 9 (bytes "a")))
  pub std_name : Limit (Rules.full_name_ok (bytes "std" ∷ [])) (Rules.full_name_ok (bytes "std" ∷ bytes "a" ∷ []))
  pub namespaces : Limit (Rules.body_ok 0 false (nested 7)) (Rules.body_ok 0 false (nested 8))
  pub forward_namespaces : Limit (Rules.forward_ok 0 (nested_forward 7)) (Rules.forward_ok 0 (nested_forward 8))
  pub declared_arguments : DeclaredLimit (x_parameters 31) (x_parameters 32)
  pub declared_with_self : DeclaredLimit (self ∷ x_parameters 31) (self ∷ x_parameters 32)
  pub declared_with_slot : DeclaredLimit (x_parameters 31 ++ (slot (boxes 0) ∷ [])) (x_parameters 32 ++ (slot (boxes 0) ∷ []))
  pub declared_with_both : DeclaredLimit (self ∷ slot (boxes 0) ∷ x_parameters 31) (self ∷ slot (boxes 0) ∷ x_parameters 32)
  pub declared_selfs : DeclaredLimit (copies 32 self) (copies 33 self)
  pub declared_slots : DeclaredLimit (copies 32 (slot (boxes 0))) (copies 33 (slot (boxes 0)))
  pub call_arguments : CallLimit (x_operands 31) (x_operands 32)
  pub call_with_receiver : CallLimit (receiver ∷ x_operands 31) (receiver ∷ x_operands 32)
  pub call_with_slot : CallLimit (x_operands 31 ++ (slot_address ∷ [])) (x_operands 32 ++ (slot_address ∷ []))
  pub call_with_both : CallLimit (receiver ∷ slot_address ∷ x_operands 31) (receiver ∷ slot_address ∷ x_operands 32)
  pub call_receivers : CallLimit (copies 32 receiver) (copies 33 receiver)
  pub call_slots : CallLimit (copies 32 slot_address) (copies 33 slot_address)
  pub shim_arguments : Limit (Rules.item_ok 0 false (shim_with 31)) (Rules.item_ok 0 false (shim_with 32))
  pub comments : Limit (Rules.comments_ok (copies 31 [])) (Rules.comments_ok (copies 32 []))
  pub comment_length : Limit (Rules.comments_ok (copies 128 32 ∷ [])) (Rules.comments_ok (copies 129 32 ∷ []))
  pub main_in_root : Limit (Rules.item_ok 0 true declares_main) (Rules.item_ok 1 true declares_main)
  pub in_extern_c : Limit (Rules.item_ok 0 true declares_main) (Rules.item_ok 0 false declares_main)

computed : Reading worked_tree worked × Reading swapped_tree swapped × Reading in_forward twofold × Reading in_body twofold × Reading forms_tree forms
    × Limits
unfolding computes
computed = (
  checked worked_tree mill_closings worked refl,
  checked swapped_tree mill_closings swapped refl,
  checked in_forward tt twofold refl,
  checked in_body (closing (namespace (bytes "a")) " namespace a" refl, tt, tt) twofold refl,
  checked forms_tree forms_closings forms refl,
  record {
    levels = (refl, refl);
    declared_levels = (refl, refl);
    wrapped_levels = (refl, refl);
    fn_arguments = (refl, refl);
    array_length = (refl, refl);
    full_name = (refl, refl);
    std_name = (refl, refl);
    namespaces = (refl, refl);
    forward_namespaces = (refl, refl);
    declared_arguments = (refl, refl);
    declared_with_self = (refl, refl);
    declared_with_slot = (refl, refl);
    declared_with_both = (refl, refl);
    declared_selfs = (refl, refl);
    declared_slots = (refl, refl);
    call_arguments = (refl, refl);
    call_with_receiver = (refl, refl);
    call_with_slot = (refl, refl);
    call_with_both = (refl, refl);
    call_receivers = (refl, refl);
    call_slots = (refl, refl);
    shim_arguments = (refl, refl);
    comments = (refl, refl);
    comment_length = (refl, refl);
    main_in_root = (refl, refl);
    in_extern_c = (refl, refl);
  },
)

-- document 01's text has this reading and no other
pub worked_reads : Reading worked_tree worked
worked_reads = computed.0

pub worked_once : OneReading worked
worked_once = one_reading worked_tree worked worked_reads refl

-- a text in which a call hands its operands on in another order is read too, and also has no other reading
pub swapped_reads : Reading swapped_tree swapped
swapped_reads = computed.1

pub swapped_once : OneReading swapped
swapped_once = one_reading swapped_tree swapped swapped_reads refl

pub ambiguous : Reading in_forward twofold × Reading in_body twofold × (in_forward ≡ in_body → ⊥)
unfolding HasForward
ambiguous = (computed.2, computed.3, λ e. subst HasForward e tt)

-- every form of the grammar is read
pub forms_read : Reading forms_tree forms
forms_read = computed.4

pub forms_once : OneReading forms
forms_once = one_reading forms_tree forms forms_read refl

pub limits : Limits
limits = computed.5
