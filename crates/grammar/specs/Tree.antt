-- The parts of a text. A reading is a tree of these parts.
use Rattle.std.specs.Prelude.{ℕ, Bool, List}
use Rattle.grammar.specs.Types.{Name, Atom, CxxType}

-- "Return types may also be `void`, `::rust::repr::PtrLen` or `::rust::repr::Fat`, and `int`"
pub data Result : Type 0 where
  void ptr_len fat int : Result
  value : CxxType → Result

pub data Parameter : Type 0 where
  named : CxxType → Name → Parameter
  slot : CxxType → Parameter  -- return$

pub record Declaration : Type 0 where
  pub result : Result
  pub symbol : Name
  pub parameters : List Parameter
  pub noexcept : Bool

pub data Measure : Type 0 where
  size align : Measure

-- the body of `owner::layout::size()` or `align()` calls the symbol
pub record LayoutDefinition : Type 0 where
  pub owner : Name
  pub measure : Measure
  pub symbol : Name

pub data Head : Type 0 where
  free : Name → Head  -- f
  method : Name → Name → Head  -- T::f

-- "held locals"
pub data Local : Type 0 where
  held : CxxType → Name → Local  -- ::rust::ManuallyDrop<T> x$(::std::move(x));
  room : CxxType → Local  -- ::rust::MaybeUninit<T> return$;

pub data Operand : Type 0 where
  receiver : Operand  -- *this
  direct : Name → Operand  -- x
  into_raw : Name → Operand  -- x.into_raw()
  release : Name → Operand  -- x.release()
  address : Name → Operand  -- &x
  held_address : Name → Operand  -- &x$.value
  slot_address : Operand  -- &return$.value

-- "The call stands bare, after `error$ =` or after `return`, there also behind `*` or inside `from_raw`,
-- a unique_ptr, `new_unchecked` or `slice`, of any type."
pub data CallForm : Type 0 where
  bare error returned dereferenced : CallForm
  in_from_raw in_unique_ptr in_new_unchecked in_slice : CxxType → CallForm

pub record Call : Type 0 where
  pub form : CallForm
  pub symbol : Name
  pub operands : List Operand

pub data Ending : Type 0 where
  no_return : Ending
  return_slot : Ending  -- return *return$.value;
  move_slot : Ending  -- return ::std::move(return$.value);

-- "A shim is a head, comment lines before it, held locals, the call, the error test and the return."
pub record Shim : Type 0 where
  pub comments : List (List ℕ)
  pub result : Result
  pub head : Head
  pub parameters : List Parameter
  pub is_const : Bool
  pub noexcept : Bool
  pub locals : List Local
  pub call : Call
  pub error_test : Bool
  pub ending : Ending

pub data Item : Type 0 where
  declares : Declaration → Item
  defines : LayoutDefinition → Item
  shim : Shim → Item

pub data Block : Type 0 where
  namespace : Name → Block
  extern_c : Block

-- "a body (namespaces and extern "C", each closed by `}` and a comment that repeats its head)"
pub data Body : Type 0 where
  body_end : Body
  item : Item → Body → Body
  block : Block → Body → Body → Body  -- the body inside, and what follows

pub data Line : Type 0 where
  struct_line : Name → Line  -- struct X;
  enum_line : Name → Atom → Line  -- enum class X : A;
  using_line : Name → List Name → Line  -- using X = ::a::b;

-- "a forward part (struct, enum class and using lines; namespaces closed by a bare `}`)"
pub data Forward : Type 0 where
  forward_end : Forward
  line : Line → Forward → Forward
  bare_namespace : Name → Forward → Forward → Forward  -- the part inside, and what follows

pub data Text : Type 0 where
  text : Forward → Body → Text
