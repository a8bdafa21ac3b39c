-- How a Content of the code stands for a state of the definition's machine between two items, and what the functions
-- of the code do to it.
use Rattle.std.specs.Prelude.{◌≡◌, List, Bool, ◌&&◌, not, ℕ}
use Rattle.format.specs.Sheet.{Name, Form, Function, Item, Sheet}
use Rattle.bridge.specs.Block.{Block}
use Rattle.bridge.specs.Out as machine
use Rattle.bridge.specs.Write.{is_free, write_rust_function_shim}
use Rattle.pieces.specs.Between.{named, standing}
use Rattle.out.specs.declared.Content.{Content}
use Rattle.out.specs.State.{Stands}

-- c represents the state m: the blocks that are set are those of its namespace
pub record Represents (s names first buf : List ℕ) (c : Content) (m : machine.Content) : Type 0 where
  pub text : List ℕ
  pub namespace : List Name
  pub opened : List Block
  pub asks : Bool
  pub is : m ≡ standing text namespace opened (named namespace) asks
  pub stands : Stands s names first buf c text namespace opened (named namespace) asks

-- c represents some state
pub record Representing (s names buf : List ℕ) (c : Content) : Type 0 where
  pub first : List ℕ
  pub state : machine.Content
  pub represents : Represents s names first buf c state

-- from each state that c represents the code does what K does
pub record Runs (s names buf after : List ℕ) (K : machine.Content → machine.Content) (c r : Content) : Type 0 where
  pub each : {first : List ℕ} {m : machine.Content} → Represents s names first buf c m →
      Represents s names first after r (K m)

abbrev pub sheet_of : Bool → Bool → List Item → Sheet
sheet_of header doxygen items = record { header = header; doxygen = doxygen; items = items }

-- ---- parts of the definition's passes

-- a text in a section of its own
abbrev pub section_of : List ℕ → machine.Content → machine.Content
section_of t m = machine.write t (machine.next_section m)

-- a header does not show what has a self type
abbrev pub hidden_form : Bool → Form → Bool
hidden_form header form = header && not (is_free form)

-- the second pass at a function
abbrev pub shim_section : Sheet → Item → Function → machine.Content → machine.Content
shim_section x i f m = write_rust_function_shim x i f (machine.next_section m)
