-- The tokens of each tree, in front of the tokens that follow.
use Rattle.std.specs.Prelude.{ℕ, Bool, true, false, List, [], ◌∷◌, ◌++◌}
use Rattle.lexical.specs.Bytes.{bytes}
use Rattle.lexical.specs.Decimal.{decimal}
use Rattle.grammar.specs.Token.{Token, word, scope, comment, quoted}
use Rattle.grammar.specs.Layout.{Layout}
use Rattle.grammar.specs.Types.{Name, Atom, bool, char, u8, u16, u32, u64, usize, i8, i16, i32, i64, isize}
use Rattle.grammar.specs.Types.{f32, f64, cxx_string, rust_string, Template, box, vec, unique_ptr, shared_ptr}
use Rattle.grammar.specs.Types.{weak_ptr, vector, Suffix, reference, pointer, CxxType, suffixed, Base, atom, str}
use Rattle.grammar.specs.Types.{full, template, slice, array, void_fn, fn, CxxTypes, nil, cons}
use Rattle.grammar.specs.Tree.{Result, void, ptr_len, fat, int, value, Parameter, named, slot, Declaration}
use Rattle.grammar.specs.Tree.{Measure, size, align, LayoutDefinition, Head, free, method, Local, held, room}
use Rattle.grammar.specs.Tree.{Operand, receiver, direct, into_raw, release, address, held_address, slot_address}
use Rattle.grammar.specs.Tree.{CallForm, bare, error, returned, dereferenced, in_from_raw, in_unique_ptr}
use Rattle.grammar.specs.Tree.{in_new_unchecked, in_slice, Call, Ending, no_return, return_slot, move_slot, Shim, Item}
use Rattle.grammar.specs.Tree.{declares, defines, shim, Block, namespace, extern_c, Body, body_end, item, block}
use Rattle.grammar.specs.Tree.{Line, struct_line, enum_line, using_line, Forward, forward_end, line, bare_namespace}
use Rattle.grammar.specs.Tree.{Text, text}

-- lists

module _ {A : Type 0} (tokens : A → List Token → List Token) where
  abbrev pub each_tokens : List A → List Token → List Token
  each_tokens [] rest = rest
  each_tokens (x ∷ xs) rest = tokens x (each_tokens xs rest)

  abbrev pub comma_tokens : List A → List Token → List Token
  comma_tokens [] rest = rest
  comma_tokens (x ∷ xs) rest = quoted "," (tokens x (comma_tokens xs rest))

  -- with a comma between each two
  abbrev pub list_tokens : List A → List Token → List Token
  list_tokens [] rest = rest
  list_tokens (x ∷ xs) rest = tokens x (comma_tokens xs rest)

abbrev pub optional_tokens : Bool → List Token → List Token → List Token
optional_tokens true ts rest = ts ++ rest
optional_tokens false ts rest = rest

-- types

-- "A full name has `::` before each namespace and before the C++ name"
abbrev pub path_tokens : List Name → List Token → List Token
path_tokens [] rest = rest
path_tokens (s ∷ path) rest = scope ∷ word s ∷ path_tokens path rest

-- the sixteen atoms of the sheet, as C++ types
abbrev pub atom_tokens : Atom → List Token → List Token
atom_tokens bool rest = quoted "bool" rest
atom_tokens char rest = quoted "char" rest
atom_tokens u8 rest = quoted ":: std :: uint8_t" rest
atom_tokens u16 rest = quoted ":: std :: uint16_t" rest
atom_tokens u32 rest = quoted ":: std :: uint32_t" rest
atom_tokens u64 rest = quoted ":: std :: uint64_t" rest
atom_tokens usize rest = quoted ":: std :: size_t" rest
atom_tokens i8 rest = quoted ":: std :: int8_t" rest
atom_tokens i16 rest = quoted ":: std :: int16_t" rest
atom_tokens i32 rest = quoted ":: std :: int32_t" rest
atom_tokens i64 rest = quoted ":: std :: int64_t" rest
atom_tokens isize rest = quoted ":: rust :: isize" rest
atom_tokens f32 rest = quoted "float" rest
atom_tokens f64 rest = quoted "double" rest
atom_tokens cxx_string rest = quoted ":: std :: string" rest
atom_tokens rust_string rest = quoted ":: rust :: String" rest

abbrev pub template_tokens : Template → List Token → List Token
template_tokens box rest = quoted ":: rust :: Box <" rest
template_tokens vec rest = quoted ":: rust :: Vec <" rest
template_tokens unique_ptr rest = quoted ":: std :: unique_ptr <" rest
template_tokens shared_ptr rest = quoted ":: std :: shared_ptr <" rest
template_tokens weak_ptr rest = quoted ":: std :: weak_ptr <" rest
template_tokens vector rest = quoted ":: std :: vector <" rest

abbrev pub const_tokens : Bool → List Token → List Token
const_tokens is_const rest = optional_tokens is_const (quoted "const" []) rest

abbrev pub suffix_tokens : Suffix → List Token → List Token
suffix_tokens (reference is_const) rest = const_tokens is_const (quoted "&" rest)
suffix_tokens (pointer is_const) rest = const_tokens is_const (quoted "*" rest)

-- an array's length is a decimal literal without leading zeros (ISO C++ [lex.icon])
abbrev mutual
  pub type_tokens : CxxType → List Token → List Token
  type_tokens (suffixed base suffixes) rest = base_tokens base (each_tokens suffix_tokens suffixes rest)

  pub base_tokens : Base → List Token → List Token
  base_tokens (atom a) rest = atom_tokens a rest
  base_tokens str rest = quoted ":: rust :: Str" rest
  base_tokens (full path) rest = path_tokens path rest
  base_tokens (template t x) rest = template_tokens t (type_tokens x (quoted ">" rest))
  base_tokens (slice x is_const) rest =
      quoted ":: rust :: Slice <" (type_tokens x (const_tokens is_const (quoted ">" rest)))
  base_tokens (array x n) rest =
      quoted ":: std :: array <" (type_tokens x (quoted "," (word (decimal n) ∷ quoted ">" rest)))
  base_tokens (void_fn xs) rest = quoted ":: rust :: Fn < void (" (types_tokens xs (quoted ") >" rest))
  base_tokens (fn x xs) rest =
      quoted ":: rust :: Fn <" (type_tokens x (quoted "(" (types_tokens xs (quoted ") >" rest))))

  pub types_tokens : CxxTypes → List Token → List Token
  types_tokens nil rest = rest
  types_tokens (cons x xs) rest = type_tokens x (more_types_tokens xs rest)

  pub more_types_tokens : CxxTypes → List Token → List Token
  more_types_tokens nil rest = rest
  more_types_tokens (cons x xs) rest = quoted "," (type_tokens x (more_types_tokens xs rest))

-- heads

abbrev pub result_tokens : Result → List Token → List Token
result_tokens void rest = quoted "void" rest
result_tokens ptr_len rest = quoted ":: rust :: repr :: PtrLen" rest
result_tokens fat rest = quoted ":: rust :: repr :: Fat" rest
result_tokens int rest = quoted "int" rest
result_tokens (value x) rest = type_tokens x rest

abbrev pub parameter_tokens : Parameter → List Token → List Token
parameter_tokens (named x name) rest = type_tokens x (word name ∷ rest)
parameter_tokens (slot x) rest = type_tokens x (quoted "return$" rest)

abbrev pub head_tokens : Head → List Token → List Token
head_tokens (free f) rest = word f ∷ rest
head_tokens (method t f) rest = word t ∷ quoted "::" (word f ∷ rest)

abbrev pub signature_tokens : Result → Head → List Parameter → Bool → Bool → List Token → List Token
signature_tokens result head parameters is_const noexcept rest =
    result_tokens result (head_tokens head (quoted "(" (list_tokens parameter_tokens parameters (quoted ")"
    (const_tokens is_const (optional_tokens noexcept (quoted "noexcept" []) rest))))))

abbrev pub declaration_tokens : Declaration → List Token → List Token
declaration_tokens d rest =
    signature_tokens d.result (free d.symbol) d.parameters false d.noexcept (quoted ";" rest)

abbrev pub measure_tokens : Measure → List Token → List Token
measure_tokens size rest = quoted "size" rest
measure_tokens align rest = quoted "align" rest

abbrev pub layout_tokens : LayoutDefinition → List Token → List Token
layout_tokens d rest =
    quoted ":: std :: size_t" (word d.owner ∷ quoted ":: layout ::" (measure_tokens d.measure
    (quoted "( ) noexcept { return" (word d.symbol ∷ quoted "( ) ; }" rest))))

-- shims

abbrev pub operand_tokens : Operand → List Token → List Token
operand_tokens receiver rest = quoted "* this" rest
operand_tokens (direct x) rest = word x ∷ rest
operand_tokens (into_raw x) rest = word x ∷ quoted ". into_raw ( )" rest
operand_tokens (release x) rest = word x ∷ quoted ". release ( )" rest
operand_tokens (address x) rest = quoted "&" (word x ∷ rest)
operand_tokens (held_address x) rest = quoted "&" (word (x ++ bytes "$") ∷ quoted ". value" rest)
operand_tokens slot_address rest = quoted "& return$ . value" rest

abbrev pub local_tokens : Local → List Token → List Token
local_tokens (held x name) rest =
    quoted ":: rust :: ManuallyDrop <" (type_tokens x (quoted ">" (word (name ++ bytes "$") ∷
    quoted "( :: std :: move (" (word name ∷ quoted ") ) ;" rest))))
local_tokens (room x) rest = quoted ":: rust :: MaybeUninit <" (type_tokens x (quoted "> return$ ;" rest))

-- what stands in front of the called symbol
abbrev pub form_tokens : CallForm → List Token → List Token
form_tokens bare rest = rest
form_tokens error rest = quoted ":: rust :: repr :: PtrLen error$ =" rest
form_tokens returned rest = quoted "return" rest
form_tokens dereferenced rest = quoted "return *" rest
form_tokens (in_from_raw x) rest = quoted "return :: rust :: Box <" (type_tokens x (quoted "> :: from_raw (" rest))
form_tokens (in_unique_ptr x) rest = quoted "return :: std :: unique_ptr <" (type_tokens x (quoted "> (" rest))
form_tokens (in_new_unchecked x) rest =
    quoted "return :: rust :: impl <" (type_tokens x (quoted "> :: new_unchecked (" rest))
form_tokens (in_slice x) rest = quoted "return :: rust :: impl <" (type_tokens x (quoted "> :: slice (" rest))

-- and behind the call
abbrev pub close_tokens : CallForm → List Token → List Token
close_tokens bare rest = rest
close_tokens error rest = rest
close_tokens returned rest = rest
close_tokens dereferenced rest = rest
close_tokens (in_from_raw x) rest = quoted ")" rest
close_tokens (in_unique_ptr x) rest = quoted ")" rest
close_tokens (in_new_unchecked x) rest = quoted ")" rest
close_tokens (in_slice x) rest = quoted ")" rest

abbrev pub call_tokens : Call → List Token → List Token
call_tokens c rest =
    form_tokens c.form (word c.symbol ∷ quoted "(" (list_tokens operand_tokens c.operands (quoted ")"
    (close_tokens c.form (quoted ";" rest)))))

abbrev pub error_test_tokens : Bool → List Token → List Token
error_test_tokens true rest =
    quoted "if ( error$ . ptr ) { throw :: rust :: impl < :: rust :: Error > :: error ( error$ ) ; }" rest
error_test_tokens false rest = rest

abbrev pub ending_tokens : Ending → List Token → List Token
ending_tokens no_return rest = rest
ending_tokens return_slot rest = quoted "return * return$ . value ;" rest
ending_tokens move_slot rest = quoted "return :: std :: move ( return$ . value ) ;" rest

abbrev pub comment_tokens : List ℕ → List Token → List Token
comment_tokens s rest = comment s ∷ rest

abbrev pub shim_tokens : Shim → List Token → List Token
shim_tokens s rest =
    each_tokens comment_tokens s.comments
    (signature_tokens s.result s.head s.parameters s.is_const s.noexcept
    (quoted "{" (each_tokens local_tokens s.locals (call_tokens s.call
    (error_test_tokens s.error_test (ending_tokens s.ending (quoted "}" rest)))))))

-- the body

abbrev pub item_tokens : Item → List Token → List Token
item_tokens (declares d) rest = declaration_tokens d rest
item_tokens (defines d) rest = layout_tokens d rest
item_tokens (shim s) rest = shim_tokens s rest

abbrev pub block_tokens : Block → List Token → List Token
block_tokens (namespace x) rest = quoted "namespace" (word x ∷ rest)
block_tokens extern_c rest = quoted "extern \"C\"" rest

-- "a comment that repeats its head": the head's tokens, laid out behind the two slashes (`well_formed` keeps a comment
-- within its line)
pub record Closing (b : Block) : Type 0 where
  pub characters : List ℕ
  pub repeats : Layout (block_tokens b []) characters

-- one for each block
abbrev pub BodyClosings : Body → Type 0
BodyClosings body_end = Unit {0}
BodyClosings (item i next) = BodyClosings next
BodyClosings (block b inside next) = Closing b × BodyClosings inside × BodyClosings next

abbrev pub body_tokens : (body : Body) → BodyClosings body → List Token → List Token
body_tokens body_end closings rest = rest
body_tokens (item i next) closings rest = item_tokens i (body_tokens next closings rest)
body_tokens (block b inside next) closings rest =
    block_tokens b (quoted "{" (body_tokens inside closings.1 (quoted "}" (comment closings.0.characters ∷
    body_tokens next closings.2 rest))))

-- the forward part

abbrev pub line_tokens : Line → List Token → List Token
line_tokens (struct_line x) rest = quoted "struct" (word x ∷ quoted ";" rest)
line_tokens (enum_line x a) rest = quoted "enum class" (word x ∷ quoted ":" (atom_tokens a (quoted ";" rest)))
line_tokens (using_line x path) rest = quoted "using" (word x ∷ quoted "=" (path_tokens path (quoted ";" rest)))

abbrev pub forward_tokens : Forward → List Token → List Token
forward_tokens forward_end rest = rest
forward_tokens (line l next) rest = line_tokens l (forward_tokens next rest)
forward_tokens (bare_namespace x inside next) rest =
    quoted "namespace" (word x ∷ quoted "{" (forward_tokens inside (quoted "}" (forward_tokens next rest))))

-- the text

abbrev pub Closings : Text → Type 0
Closings (text forward body) = BodyClosings body

abbrev pub text_tokens : (t : Text) → Closings t → List Token
text_tokens (text forward body) closings = forward_tokens forward (body_tokens body closings [])
