-- Demand 3: the text of a sheet has exactly one reading, and in it each Rust function, in sheet order, has exactly one
-- declaration and one shim, both in its namespace, and the shim calls the declared symbol with operands that fit the
-- parameters one by one. The sentences quoted are those of document 01, "The grammar", last paragraph.
use Rattle.std.specs.Prelude.{◌≡◌, List, [], ◌∷◌, ◌++◌, map, Bool, not, ◌&&◌, ℕ}
use Rattle.lexical.specs.Bytes.{bytes, same, member}
use Rattle.format.specs.Decode.{pick}
use Rattle.format.specs.declared.Template.{Template}
use Rattle.format.specs.declared.Template.TheVariants.{RustBox, RustVec, UniquePtr, SharedPtr, WeakPtr, CxxVector}
use Rattle.format.specs.Types.{Ty, atom, named, template, pointer, str, fn, array, Ret, none, gives}
use Rattle.format.specs.Sheet.{Name, Argument, Function, Body, struct, enum, cxx_type, rust_type, function, Item}
use Rattle.format.specs.Sheet.{Sheet}
use Rattle.syntax.specs.Items.{item_at, self_type}
use Rattle.syntax.specs.Mangle.{extern_fn}
use Rattle.syntax.specs.Types.{needs_indirect_abi, is_rust_string}
use Rattle.rules.specs.Rules.{is_method, argument_names}
use Rattle.grammar.specs.Tree as Tree
use Rattle.grammar.specs.Tree.{Parameter, Operand, Declaration, Shim, Head}
use Rattle.grammar.specs.Reading.{OneReading}
use Rattle.bridge.specs.Write.{text}

-- ---- the Rust functions of a sheet

pub record RustFunction : Type 0 where
  pub namespace : List Name
  pub cxx : Name
  pub function : Function

abbrev pub rust_function : Item → Body → List RustFunction
rust_function x (struct p ts) = []
rust_function x (enum p a c) = []
rust_function x (cxx_type p) = []
rust_function x (rust_type p) = []
rust_function x (function f) = record { namespace = x.namespace; cxx = x.cxx; function = f } ∷ []

-- in sheet order
unfoldable pub rust_functions : List Item → List RustFunction
rust_functions [] = []
rust_functions (x ∷ xs) = rust_function x x.body ++ rust_functions xs

-- its symbol, "built from S"
abbrev pub function_symbol : List Item → RustFunction → List ℕ
function_symbol items f = extern_fn items f.namespace f.function

-- `return$` "when it returns an indirect type, or throws and returns any type"
abbrev pub slot_names : Bool → Bool → List Name
slot_names throws indirect = pick throws (bytes "return$" ∷ []) (pick indirect (bytes "return$" ∷ []) [])

abbrev pub slot_names_of : List Item → Bool → Ret → List Name
slot_names_of items throws none = []
slot_names_of items throws (gives t) = slot_names throws (needs_indirect_abi items t)

-- "The function has these parameters and no other, in this order: `self` in forms 1 and 2, its arguments under their
-- names, and `return$`"
unfoldable pub parameter_names : List Item → Function → List Name
parameter_names items f =
    pick (is_method f.form) (bytes "self" ∷ []) [] ++ argument_names f ++ slot_names_of items f.throws f.return

-- "each head names the function's C++ name, in forms 1 to 3 behind the self type's C++ name and `::`"
unfoldable pub head_names : List Item → RustFunction → List Name
head_names items f = map (λ i. (item_at items i).cxx) (self_type f.function.form) ++ (f.cxx ∷ [])

-- ---- declarations and shims of a reading, each with the namespaces open around it, outermost first

pub record Declared : Type 0 where
  pub namespace : List Name
  pub declaration : Declaration

pub record Defined : Type 0 where
  pub namespace : List Name
  pub shim : Shim

unfoldable pub declarations : List Name → Tree.Body → List Declared
declarations ns Tree.body_end = []
declarations ns (Tree.item (Tree.declares d) next) = record { namespace = ns; declaration = d } ∷ declarations ns next
declarations ns (Tree.item (Tree.defines d) next) = declarations ns next
declarations ns (Tree.item (Tree.shim s) next) = declarations ns next
declarations ns (Tree.block (Tree.namespace x) inside next) =
    declarations (ns ++ (x ∷ [])) inside ++ declarations ns next
declarations ns (Tree.block Tree.extern_c inside next) = declarations ns inside ++ declarations ns next

-- "Outside extern "C"": the grammar has no shim inside
unfoldable pub shims : List Name → Tree.Body → List Defined
shims ns Tree.body_end = []
shims ns (Tree.item (Tree.declares d) next) = shims ns next
shims ns (Tree.item (Tree.defines d) next) = shims ns next
shims ns (Tree.item (Tree.shim s) next) = record { namespace = ns; shim = s } ∷ shims ns next
shims ns (Tree.block (Tree.namespace x) inside next) = shims (ns ++ (x ∷ [])) inside ++ shims ns next
shims ns (Tree.block Tree.extern_c inside next) = shims ns inside ++ shims ns next

-- "A declaration is that of the Rust function whose symbol, built from S, it declares"
unfoldable pub of_functions : List (List ℕ) → List Declared → List Declared
of_functions symbols [] = []
of_functions symbols (d ∷ ds) =
    pick (member d.declaration.symbol symbols) (d ∷ of_functions symbols ds) (of_functions symbols ds)

-- the name under which a parameter is declared
abbrev pub parameter_name : Parameter → Name
parameter_name (Tree.named t x) = x
parameter_name (Tree.slot t) = bytes "return$"

abbrev pub head_parts : Head → List Name
head_parts (Tree.free f) = f ∷ []
head_parts (Tree.method t f) = t ∷ f ∷ []

-- ---- the fit of operands

-- "Whether x is indirect, RustString, a Box or a UniquePtr is told from its type in S; direct is any other"
pub data Passing : Type 0 where
  direct box unique_ptr rust_string other_indirect : Passing

abbrev pub template_passing : Template → Passing → Passing
template_passing RustBox other = box
template_passing UniquePtr other = unique_ptr
template_passing RustVec other = other
template_passing SharedPtr other = other
template_passing WeakPtr other = other
template_passing CxxVector other = other

abbrev pub owner_passing : Ty → Passing → Passing
owner_passing (template k t) other = template_passing k other
owner_passing (atom a) other = other
owner_passing (named i) other = other
owner_passing (pointer k m t) other = other
owner_passing str other = other
owner_passing (fn r ts) other = other
owner_passing (array t n) other = other

abbrev pub passing : List Item → Ty → Passing
passing items t =
    owner_passing t (pick (is_rust_string t) rust_string (pick (needs_indirect_abi items t) other_indirect direct))

-- "`x` for a direct parameter; `x.into_raw()` or `x.release()` for a Box's or UniquePtr's pointer; `&x` for
-- RustString; `&x$.value` for another indirect one"
abbrev pub argument_operand : Passing → Name → Operand
argument_operand direct x = Tree.direct x
argument_operand box x = Tree.into_raw x
argument_operand unique_ptr x = Tree.release x
argument_operand rust_string x = Tree.address x
argument_operand other_indirect x = Tree.held_address x

-- the operands that fit the arguments of this name
unfoldable pub argument_operands : List Item → Name → List Argument → List Operand
argument_operands items x [] = []
argument_operands items x (a ∷ more) =
    pick (same x a.name) (argument_operand (passing items a.type) x ∷ []) [] ++ argument_operands items x more

-- the operands that fit a parameter: exactly one where the parameter is the function's.
-- "A declared `self` … is the receiver where the shim's head has none of that name, and else an argument";
-- "`*this` for the receiver", "`&return$.value` for the slot"
unfoldable pub fitting : List Item → Function → List Name → Parameter → List Operand
fitting items f head_parameters (Tree.named t x) =
    pick (same x (bytes "self") && not (member x head_parameters)) (Tree.receiver ∷ [])
    (argument_operands items x f.arguments)
fitting items f head_parameters (Tree.slot t) = Tree.slot_address ∷ []

-- ---- demand 3

abbrev pub only : Operand → List Operand
only o = o ∷ []

-- a function, its declaration and its shim. That the head takes the function's arguments, in order, is more than
-- document 01 asks.
pub record Matches (items : List Item) (f : RustFunction) (d : Declared) (s : Defined) : Type 0 where
  pub declared_in : d.namespace ≡ f.namespace
  pub defined_in : s.namespace ≡ f.namespace
  pub declares : d.declaration.symbol ≡ function_symbol items f
  pub parameters : map parameter_name d.declaration.parameters ≡ parameter_names items f.function
  pub head : head_parts s.shim.head ≡ head_names items f
  pub arguments : map parameter_name s.shim.parameters ≡ argument_names f.function
  pub calls : s.shim.call.symbol ≡ d.declaration.symbol
  pub operands :
      map (fitting items f.function (map parameter_name s.shim.parameters)) d.declaration.parameters ≡
      map only s.shim.call.operands

-- "as many shims as S has Rust functions, the first for the first and so on", and the same of the declarations
abbrev pub MatchAll : List Item → List RustFunction → List Declared → List Defined → Type 0
MatchAll items [] [] [] = Unit {0}
MatchAll items [] [] (s ∷ ss) = ⊥
MatchAll items [] (d ∷ ds) ss = ⊥
MatchAll items (f ∷ fs) [] ss = ⊥
MatchAll items (f ∷ fs) (d ∷ ds) [] = ⊥
MatchAll items (f ∷ fs) (d ∷ ds) (s ∷ ss) = Matches items f d s × MatchAll items fs ds ss

abbrev pub Agrees : List Item → Tree.Text → Type 0
Agrees items (Tree.text forward body) =
    MatchAll items (rust_functions items)
    (of_functions (map (function_symbol items) (rust_functions items)) (declarations [] body)) (shims [] body)

-- demand 3 of a sheet, due for every accepted one with header bit 0
pub record Demand3 (s : Sheet) : Type 0 where
  pub reading : OneReading (text s)
  pub agrees : Agrees s.items reading.tree
