-- The names of three trees: document 01's example, one with every form of the grammar, and one with a name at every
-- place.
use Rattle.std.proofs.Common.{◌≡◌, true, false, List, [], ◌∷◌, ◌++◌, refl}
use Prim.Native.String.{String}
use Rattle.lexical.specs.Bytes.{bytes}
use Rattle.rules.specs.Rules.{gather}
use Rattle.grammar.specs.Token.{cut}
use Rattle.grammar.specs.Types.{u8, box, reference, pointer, CxxType, suffixed, Base, full, template, slice, array}
use Rattle.grammar.specs.Types.{void_fn, fn, nil, cons}
use Rattle.grammar.specs.Tree.{Result, void, value, Parameter, named, slot, size, Head, free, method, Local, held, room}
use Rattle.grammar.specs.Tree.{Operand, receiver, direct, into_raw, release, address, held_address, slot_address, CallForm}
use Rattle.grammar.specs.Tree.{bare, error, in_from_raw, in_unique_ptr, in_new_unchecked, in_slice, no_return, Item, declares}
use Rattle.grammar.specs.Tree.{defines, shim, namespace, extern_c, body_end, item, block, struct_line, enum_line, using_line}
use Rattle.grammar.specs.Tree.{forward_end, line, bare_namespace, Text, text}
use Rattle.grammar.specs.Rules.{text_ok}
use Rattle.grammar.proofs.Computing.{computes}
use Rattle.grammar.proofs.Forms.{forms_tree}
use Rattle.grammar.proofs.Examples.{worked_tree}
use Rattle.agreement.specs.Names.{names_of_type, names_of_declaration, names_of_call, names_of_shim, names_of_body}
use Rattle.agreement.specs.Names.{names_of_forward, names_of}

-- in the text's order
pub worked_names : names_of worked_tree ≡ cut (bytes "mill Job mill mill Job job Job Job count mill Job job job")
unfolding gather names_of_type names_of_declaration names_of_call names_of_shim names_of_body names_of_forward names_of
worked_names = refl

pub forms_names : names_of forms_tree ≡
    cut (bytes "A a b a b E S E a S b std c a b S d e f g h self i a main a S S S m x x y x x x x x S f f f f f f f")
unfolding gather names_of_type names_of_declaration names_of_call names_of_shim names_of_body names_of_forward names_of
forms_names = refl

-- ---- a name at every place where the grammar has one, no two of them equal

abbrev path : String → Base
path names = full (cut (bytes names))

abbrev type : String → CxxType
type names = suffixed (path names) []

abbrev pointed : Base → CxxType
pointed base = suffixed base (pointer true ∷ reference false ∷ [])

abbrev argument : CxxType → String → Parameter
argument x name = named x (bytes name)

abbrev declared : Result → List Parameter → Item
declared result parameters =
    declares (record { result = result; symbol = bytes "symbol"; parameters = parameters; noexcept = true })

abbrev defined : Result → Head → List Parameter → List Local → CallForm → List Operand → Item
defined result head parameters locals form operands =
    shim (record {
      comments = bytes " comment" ∷ [];
      result = result;
      head = head;
      parameters = parameters;
      is_const = false;
      noexcept = true;
      locals = locals;
      call = record { form = form; symbol = bytes "symbol"; operands = operands };
      error_test = false;
      ending = no_return;
    })

abbrev calls : String → CallForm → Item
calls name form = defined void (free (bytes name)) [] [] form []

abbrev pub names_tree : Text
names_tree =
    text
    (line (using_line (bytes "n0") (cut (bytes "n1 n2 n3")))
    (bare_namespace (bytes "n4")
    (bare_namespace (bytes "n5") (line (struct_line (bytes "n6")) forward_end)
    (line (enum_line (bytes "n7") u8) forward_end))
    (line (struct_line (bytes "n8")) (bare_namespace (bytes "n9") forward_end forward_end))))
    (block (namespace (bytes "n10"))
    (block extern_c
    (item (declared (value (type "n11 n12"))
    (argument (type "n13") "n14"
    ∷ argument (pointed (path "n15 n16")) "n17"
    ∷ argument (pointed (template box (type "n18"))) "n19"
    ∷ argument (pointed (slice (pointed (path "n20")) true)) "n21"
    ∷ argument (pointed (array (type "n22") 8)) "n23"
    ∷ argument (pointed (void_fn (cons (type "n24") (cons (type "n25") nil)))) "n26"
    ∷ argument (pointed (fn (type "n27 n28") (cons (type "n29") (cons (type "n30") nil)))) "n31"
    ∷ slot (pointed (path "n32"))
    ∷ []))
    (block (namespace (bytes "n33"))
    (item (declared (value (type "n34")) []) body_end)
    (item (declared (value (type "n35")) []) body_end)))
    (item (defines (record { owner = bytes "n36"; measure = size; symbol = bytes "symbol" }))
    (block (namespace (bytes "n37"))
    (item (defined (value (type "n38")) (method (bytes "n39") (bytes "n40"))
    (argument (type "n41") "n42" ∷ argument (type "n43") "n44" ∷ [])
    (held (type "n45") (bytes "n46") ∷ room (type "n47") ∷ [])
    error
    (receiver ∷ direct (bytes "n48") ∷ into_raw (bytes "n49") ∷ release (bytes "n50") ∷ address (bytes "n51")
    ∷ held_address (bytes "n52") ∷ slot_address ∷ []))
    body_end)
    (item (calls "n53" bare)
    body_end))))
    (item (calls "n54" (in_from_raw (type "n55")))
    (item (calls "n56" (in_unique_ptr (type "n57")))
    (item (calls "n58" (in_new_unchecked (type "n59")))
    (item (calls "n60" (in_slice (type "n61")))
    body_end)))))

pub names_tree_ok : text_ok names_tree ≡ true
unfolding computes
names_tree_ok = refl

pub distinct_names : names_of names_tree ≡
    cut (bytes "n0 n1 n2 n3 n4 n5 n6 n7 n8 n9 n10 n11 n12 n13 n14 n15 n16 n17 n18 n19 n20 n21 n22 n23 n24 " ++
    bytes "n25 n26 n27 n28 n29 n30 n31 n32 n33 n34 n35 n36 n37 n38 n39 n40 n41 n42 n43 n44 n45 n46 n47 n48 n49 " ++
    bytes "n50 n51 n52 n53 n54 n55 n56 n57 n58 n59 n60 n61")
unfolding gather names_of_type names_of_declaration names_of_call names_of_shim names_of_body names_of_forward names_of
distinct_names = refl
