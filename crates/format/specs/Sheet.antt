-- The value of a sheet. Names stand as their characters, wherever the name table has them.
use Rattle.std.specs.Prelude.{List, Bool, ℕ}
use Rattle.format.specs.declared.Atom.{Atom}
use Rattle.format.specs.Types.{Ty, Ret}

abbrev pub Name : Type 0
Name = List ℕ

-- forms 1 to 3 carry the number of the self type's item
pub data Form : Type 0 where
  free : Form
  const_method : ℕ → Form
  mut_method : ℕ → Form
  associated : ℕ → Form

pub record Argument : Type 0 where
  pub name : Name
  pub type : Ty

pub record Function : Type 0 where
  pub rust : Name
  pub form : Form
  pub throws : Bool
  pub return : Ret
  pub arguments : List Argument
  pub comment : List (List ℕ)

-- what an item is, by kind; each type's first Bool is its pointer bit
pub data Body : Type 0 where
  struct : Bool → List Ty → Body
  enum : Bool → Atom → Bool → Body  -- the last Bool: C++ owns it
  cxx_type : Bool → Body
  rust_type : Bool → Body
  function : Function → Body

pub record Item : Type 0 where
  pub namespace : List Name
  pub cxx : Name
  pub body : Body

pub record Sheet : Type 0 where
  pub header : Bool
  pub doxygen : Bool
  pub items : List Item
