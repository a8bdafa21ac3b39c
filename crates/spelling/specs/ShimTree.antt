-- The trees of a sheet's shims.
use Rattle.std.specs.Prelude.{ℕ, Bool, not, ◌&&◌, List, [], ◌∷◌, ◌++◌, map, length, ◌==◌}
use Rattle.lexical.specs.Bytes.{bytes}
use Rattle.format.specs.Decode.{pick}
use Rattle.format.specs.Types.{Ty, Ret, none, gives}
use Rattle.format.specs.Sheet.{Form, free, const_method, mut_method, associated, Argument, Function, Item, Sheet}
use Rattle.syntax.specs.Items.{item_at}
use Rattle.syntax.specs.Mangle.{extern_fn}
use Rattle.rules.specs.Rules.{gather, is_method}
use Rattle.bridge.specs.Write.{Shape, rust_box, unique_ptr, ref, str, slice_ref, other, shape, slot, direct, is_free}
use Rattle.bridge.specs.Write.{is_const, is_cxx_main, is_held}
use Rattle.grammar.specs.Types as Cxx
use Rattle.grammar.specs.Types.{suffixed}
use Rattle.grammar.specs.Tree as Tree
use Rattle.grammar.specs.Tree.{Result, Parameter, Head, Local, Operand, CallForm, Ending, Shim}
use Rattle.agreement.specs.Agreement.{passing, argument_operand}
use Rattle.spelling.specs.TypeTree.{cxx_type}
use Rattle.spelling.specs.DeclarationTree.{slot_tree}

-- a comment is what stands behind the two slashes
unfoldable pub comments_of : Bool → List (List ℕ) → List (List ℕ)
comments_of doxygen lines =
    map (λ line. pick doxygen (47 ∷ line) line) lines
    ++ pick (doxygen && length lines == 1) (bytes "/" ∷ []) []

abbrev pub result_of : List Item → Ret → Result
result_of items none = Tree.void
result_of items (gives t) = Tree.value (cxx_type items t)

abbrev pub head_of : List Item → Item → Form → Head
head_of items x free = Tree.free x.cxx
head_of items x (const_method i) = Tree.method (item_at items i).cxx x.cxx
head_of items x (mut_method i) = Tree.method (item_at items i).cxx x.cxx
head_of items x (associated i) = Tree.method (item_at items i).cxx x.cxx

abbrev pub argument_of : List Item → Argument → Parameter
argument_of items a = Tree.named (cxx_type items a.type) a.name

-- an indirect argument other than a RustString, in a list of none or one
abbrev pub held_of : List Item → Argument → List Local
held_of items a = pick (is_held items a.type) (Tree.held (cxx_type items a.type) a.name ∷ []) []

abbrev pub room_of : List Item → Ty → Local
room_of items t = Tree.room (slot_tree items t (shape t))

abbrev pub direct_form : List Item → Ty → Shape → CallForm
direct_form items t (rust_box inner) = Tree.in_from_raw (cxx_type items inner)
direct_form items t (unique_ptr inner) = Tree.in_unique_ptr (cxx_type items inner)
direct_form items t (ref mutable inner) = Tree.dereferenced
direct_form items t str = Tree.in_new_unchecked (suffixed Cxx.str [])
direct_form items t slice_ref = Tree.in_slice (cxx_type items t)
direct_form items t other = Tree.returned

-- by the type of a direct return, in a list of none or one
abbrev pub return_form : List Item → List Ty → CallForm
return_form items [] = Tree.bare
return_form items (t ∷ ts) = direct_form items t (shape t)

abbrev pub operand_of : List Item → Argument → Operand
operand_of items a = argument_operand (passing items a.type) a.name

abbrev pub slot_address_of : Ty → Operand
slot_address_of t = Tree.slot_address

unfoldable pub operands_of : List Item → Function → List Operand
operands_of items f =
    pick (is_method f.form) (Tree.receiver ∷ []) [] ++ map (operand_of items) f.arguments
    ++ map slot_address_of (slot items f)

abbrev pub slot_ending : Shape → Ending
slot_ending (ref mutable inner) = Tree.return_slot
slot_ending (rust_box inner) = Tree.move_slot
slot_ending (unique_ptr inner) = Tree.move_slot
slot_ending str = Tree.move_slot
slot_ending slice_ref = Tree.move_slot
slot_ending other = Tree.move_slot

-- by the type of the return slot, in a list of none or one
abbrev pub ending_of : List Ty → Ending
ending_of [] = Tree.no_return
ending_of (t ∷ ts) = slot_ending (shape t)

-- "A shim is a head, comment lines before it, held locals, the call, the error test and the return."
abbrev pub shim_tree : Sheet → Item → Function → Shim
shim_tree s x f =
    record {
      comments = pick (is_free f.form) (comments_of s.doxygen f.comment) [];
      result = pick (is_cxx_main x f) Tree.int (result_of s.items f.return);
      head = head_of s.items x f.form;
      parameters = map (argument_of s.items) f.arguments;
      is_const = is_const f.form;
      noexcept = not f.throws;
      locals = gather (held_of s.items) f.arguments ++ map (room_of s.items) (slot s.items f);
      call = record {
        form = pick f.throws Tree.error (return_form s.items (direct s.items f));
        symbol = extern_fn s.items x.namespace f;
        operands = operands_of s.items f;
      };
      error_test = f.throws;
      ending = ending_of (slot s.items f);
    }
