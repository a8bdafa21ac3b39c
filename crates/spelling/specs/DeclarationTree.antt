-- The trees of a sheet's declarations and layout definitions.
use Rattle.std.specs.Prelude.{true, false, List, [], ◌∷◌, ◌++◌, map}
use Rattle.lexical.specs.Bytes.{bytes}
use Rattle.format.specs.Decode.{pick}
use Rattle.format.specs.Types.{Ty, Ret, none, gives}
use Rattle.format.specs.Sheet.{Name, Form, free, const_method, mut_method, associated, Argument, Function, Item}
use Rattle.syntax.specs.Items.{item_at}
use Rattle.syntax.specs.Mangle.{extern_fn, operator}
use Rattle.syntax.specs.Types.{needs_indirect_abi}
use Rattle.bridge.specs.Write.{Shape, rust_box, unique_ptr, ref, str, slice_ref, other, shape, indirect_return, slot}
use Rattle.grammar.specs.Types as Cxx
use Rattle.grammar.specs.Types.{CxxType, suffixed}
use Rattle.grammar.specs.Tree as Tree
use Rattle.grammar.specs.Tree.{Result, Parameter, Declaration, Measure, LayoutDefinition}
use Rattle.spelling.specs.TypeTree.{item_path, pointer_to, cxx_type}

-- ---- results

-- Box, UniquePtr and references return as pointers, slices and strings as `Fat`
abbrev pub direct_result : List Item → Ty → Shape → Result
direct_result items t (rust_box inner) = Tree.value (pointer_to true (cxx_type items inner))
direct_result items t (unique_ptr inner) = Tree.value (pointer_to true (cxx_type items inner))
direct_result items t (ref mutable inner) = Tree.value (pointer_to mutable (cxx_type items inner))
direct_result items t str = Tree.fat
direct_result items t slice_ref = Tree.fat
direct_result items t other = Tree.value (cxx_type items t)

abbrev pub direct_result_of : List Item → Ret → Result
direct_result_of items none = Tree.void
direct_result_of items (gives t) = direct_result items t (shape t)

unfoldable pub declared_result : List Item → Function → Result
declared_result items f =
    pick f.throws Tree.ptr_len
    (pick (indirect_return items f f.return) Tree.void (direct_result_of items f.return))

-- ---- parameters

-- `self` in forms 1 and 2, in a list of none or one
abbrev pub declared_receiver : List Item → Form → List Parameter
declared_receiver items free = []
declared_receiver items (const_method i) =
    Tree.named (suffixed (Cxx.full (item_path (item_at items i))) (Cxx.reference true ∷ [])) (bytes "self") ∷ []
declared_receiver items (mut_method i) =
    Tree.named (suffixed (Cxx.full (item_path (item_at items i))) (Cxx.reference false ∷ [])) (bytes "self") ∷ []
declared_receiver items (associated i) = []

-- a Box or a UniquePtr is handed over as its pointer
abbrev pub declared_type : List Item → Ty → Shape → CxxType
declared_type items t (rust_box inner) = pointer_to true (cxx_type items inner)
declared_type items t (unique_ptr inner) = pointer_to true (cxx_type items inner)
declared_type items t (ref mutable inner) = cxx_type items t
declared_type items t str = cxx_type items t
declared_type items t slice_ref = cxx_type items t
declared_type items t other = cxx_type items t

-- what is indirect has one more `*`
unfoldable pub declared_argument : List Item → Argument → Parameter
declared_argument items a =
    Tree.named
    (pick (needs_indirect_abi items a.type) (pointer_to true (declared_type items a.type (shape a.type)))
    (declared_type items a.type (shape a.type)))
    a.name

-- what the return slot holds: for a reference a pointer
abbrev pub slot_tree : List Item → Ty → Shape → CxxType
slot_tree items t (ref mutable inner) = pointer_to mutable (cxx_type items inner)
slot_tree items t (rust_box inner) = cxx_type items t
slot_tree items t (unique_ptr inner) = cxx_type items t
slot_tree items t str = cxx_type items t
slot_tree items t slice_ref = cxx_type items t
slot_tree items t other = cxx_type items t

abbrev pub declared_slot : List Item → Ty → Parameter
declared_slot items t = Tree.slot (pointer_to true (slot_tree items t (shape t)))

unfoldable pub declared_parameters : List Item → Function → List Parameter
declared_parameters items f =
    declared_receiver items f.form ++ map (declared_argument items) f.arguments
    ++ map (declared_slot items) (slot items f)

-- ---- declarations

abbrev pub declaration_of : List Item → Item → Function → Declaration
declaration_of items x f =
    record {
      result = declared_result items f;
      symbol = extern_fn items x.namespace f;
      parameters = declared_parameters items f;
      noexcept = true;
    }

abbrev pub measure_name : Measure → Name
measure_name Tree.size = bytes "size"
measure_name Tree.align = bytes "align"

abbrev pub operator_name : Measure → Name
operator_name Tree.size = bytes "sizeof"
operator_name Tree.align = bytes "alignof"

abbrev pub layout_declaration_of : Item → Measure → Declaration
layout_declaration_of x m =
    record {
      result = Tree.value (suffixed (Cxx.atom Cxx.usize) []);
      symbol = operator x (operator_name m);
      parameters = [];
      noexcept = true;
    }

abbrev pub layout_definition_of : Item → Measure → LayoutDefinition
layout_definition_of x m = record { owner = x.cxx; measure = m; symbol = operator x (operator_name m) }
