-- The names of a reading, and readings whose names keep a narrower rule than the grammar's.
use Rattle.std.specs.Prelude.{◌≡◌, List, [], ◌∷◌, ◌++◌, Bool, true, ℕ}
use Rattle.lexical.specs.Bytes.{every}
use Rattle.format.specs.Sheet.{Sheet}
use Rattle.rules.specs.Rules.{gather}
use Rattle.grammar.specs.Types.{Name, CxxType, suffixed, Base, atom, str, full, template, slice, array, void_fn, fn}
use Rattle.grammar.specs.Types.{CxxTypes, nil, cons}
use Rattle.grammar.specs.Tree.{Result, void, ptr_len, fat, int, value, Parameter, named, slot, Declaration}
use Rattle.grammar.specs.Tree.{LayoutDefinition, Local, held, room, Operand, receiver, direct}
use Rattle.grammar.specs.Tree.{into_raw, release, address, held_address, slot_address, CallForm, bare, error, returned}
use Rattle.grammar.specs.Tree.{dereferenced, in_from_raw, in_unique_ptr, in_new_unchecked, in_slice, Call, Shim, Item}
use Rattle.grammar.specs.Tree.{declares, defines, shim, Block, namespace, extern_c, Body, body_end, item, block, Line}
use Rattle.grammar.specs.Tree.{struct_line, enum_line, using_line, Forward, forward_end, line, bare_namespace, Text}
use Rattle.grammar.specs.Tree.{text}
use Rattle.grammar.specs.Reading.{Reading}
use Rattle.bridge.specs.Write as Bridge
use Rattle.agreement.specs.Agreement.{head_parts, Agrees}

-- ---- what stands where the grammar (docs/GRAMMAR.md) has a NAME, or a NAME before `$`; symbols and comments are none

unfoldable mutual
  pub names_of_type : CxxType → List Name
  names_of_type (suffixed base suffixes) = names_of_base base

  pub names_of_base : Base → List Name
  names_of_base (atom a) = []
  names_of_base str = []
  names_of_base (full path) = path
  names_of_base (template t x) = names_of_type x
  names_of_base (slice x is_const) = names_of_type x
  names_of_base (array x n) = names_of_type x
  names_of_base (void_fn xs) = names_of_types xs
  names_of_base (fn x xs) = names_of_type x ++ names_of_types xs

  pub names_of_types : CxxTypes → List Name
  names_of_types nil = []
  names_of_types (cons x xs) = names_of_type x ++ names_of_types xs

abbrev pub names_of_result : Result → List Name
names_of_result void = []
names_of_result ptr_len = []
names_of_result fat = []
names_of_result int = []
names_of_result (value x) = names_of_type x

abbrev pub names_of_parameter : Parameter → List Name
names_of_parameter (named x name) = names_of_type x ++ (name ∷ [])
names_of_parameter (slot x) = names_of_type x

unfoldable pub names_of_declaration : Declaration → List Name
names_of_declaration d = names_of_result d.result ++ gather names_of_parameter d.parameters

abbrev pub names_of_layout : LayoutDefinition → List Name
names_of_layout d = d.owner ∷ []

abbrev pub names_of_local : Local → List Name
names_of_local (held x name) = names_of_type x ++ (name ∷ [])
names_of_local (room x) = names_of_type x

abbrev pub names_of_operand : Operand → List Name
names_of_operand receiver = []
names_of_operand (direct x) = x ∷ []
names_of_operand (into_raw x) = x ∷ []
names_of_operand (release x) = x ∷ []
names_of_operand (address x) = x ∷ []
names_of_operand (held_address x) = x ∷ []
names_of_operand slot_address = []

abbrev pub names_of_form : CallForm → List Name
names_of_form bare = []
names_of_form error = []
names_of_form returned = []
names_of_form dereferenced = []
names_of_form (in_from_raw x) = names_of_type x
names_of_form (in_unique_ptr x) = names_of_type x
names_of_form (in_new_unchecked x) = names_of_type x
names_of_form (in_slice x) = names_of_type x

unfoldable pub names_of_call : Call → List Name
names_of_call c = names_of_form c.form ++ gather names_of_operand c.operands

unfoldable pub names_of_shim : Shim → List Name
names_of_shim s =
    names_of_result s.result ++ head_parts s.head ++ gather names_of_parameter s.parameters
    ++ gather names_of_local s.locals ++ names_of_call s.call

abbrev pub names_of_item : Item → List Name
names_of_item (declares d) = names_of_declaration d
names_of_item (defines d) = names_of_layout d
names_of_item (shim s) = names_of_shim s

abbrev pub names_of_block : Block → List Name
names_of_block (namespace x) = x ∷ []
names_of_block extern_c = []

unfoldable pub names_of_body : Body → List Name
names_of_body body_end = []
names_of_body (item i next) = names_of_item i ++ names_of_body next
names_of_body (block b inside next) = names_of_block b ++ names_of_body inside ++ names_of_body next

abbrev pub names_of_line : Line → List Name
names_of_line (struct_line x) = x ∷ []
names_of_line (enum_line x a) = x ∷ []
names_of_line (using_line x path) = x ∷ path

unfoldable pub names_of_forward : Forward → List Name
names_of_forward forward_end = []
names_of_forward (line l next) = names_of_line l ++ names_of_forward next
names_of_forward (bare_namespace x inside next) = x ∷ names_of_forward inside ++ names_of_forward next

unfoldable pub names_of : Text → List Name
names_of (text forward body) = names_of_forward forward ++ names_of_body body

-- ---- the grammar with a narrower rule for its names

pub record ReadingUnder (rule : Name → Bool) (tree : Text) (bytes : List ℕ) : Type 0 where
  pub reads : Reading tree bytes
  pub names : every rule (names_of tree) ≡ true

-- exactly one reading
pub record OneReadingUnder (rule : Name → Bool) (bytes : List ℕ) : Type 0 where
  pub tree : Text
  pub reads : ReadingUnder rule tree bytes
  pub equal : (a b : Text) → ReadingUnder rule a bytes → ReadingUnder rule b bytes → a ≡ b

-- demand 3 of a sheet in that grammar
pub record Demand3Under (rule : Name → Bool) (s : Sheet) : Type 0 where
  pub reading : OneReadingUnder rule (Bridge.text s)
  pub agrees : Agrees s.items reading.tree
