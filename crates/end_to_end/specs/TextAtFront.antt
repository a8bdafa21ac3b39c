-- Demand 3 of the bytes in a caller's buffer: "The text of every accepted sheet with header bit 0 has exactly one
-- reading in document 01's grammar, and in it each Rust function, in sheet order, has exactly one declaration and one
-- shim, both in its namespace, and the shim calls the declared symbol with operands that fit the parameters one by
-- one."
use Rattle.std.specs.Prelude.{◌≡◌, List, true, false, ℕ, ◌≤◌, length, take, drop}
use Rattle.lexical.specs.Bytes.{every}
use Rattle.lexical.specs.Names.{table_of, sheet_name}
use Rattle.format.specs.Sheet.{Sheet}
use Rattle.format.specs.Decoding.{edition_of}
use Rattle.rules.specs.Judge.{accepted, judge}
use Rattle.grammar.specs.Tree.{Text}
use Rattle.grammar.specs.Reading.{Reading, OneReading}
use Rattle.agreement.specs.Agreement.{Agrees}
use Rattle.agreement.specs.Names.{names_of}

-- the sheet is accepted; with header bit 0 the first n bytes of the buffer have exactly one reading, which agrees with
-- the sheet's items, and whose names keep the rule of the sheet's edition; behind those bytes nothing has changed
pub record TextAtFront (sheet buffer : List ℕ) (n : ℕ) (after : List ℕ) : Type 0 where
  pub value : Sheet
  pub accepts : judge sheet ≡ accepted value
  pub demand3 : value.header ≡ false → (r : OneReading (take n after)) × Agrees value.items r.tree
  pub names : value.header ≡ false → (tree : Text) → Reading tree (take n after) →
      every (sheet_name (table_of (edition_of sheet))) (names_of tree) ≡ true
  pub inside : n ≤ length buffer
  pub behind : drop n after ≡ drop n buffer
  pub same_length : length after ≡ length buffer
