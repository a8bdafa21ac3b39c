-- Readings of a text.
use Rattle.std.specs.Prelude.{◌≡◌, ℕ, true, List}
use Rattle.grammar.specs.Layout.{Layout}
use Rattle.grammar.specs.Tree.{Text}
use Rattle.grammar.specs.Tokens.{Closings, text_tokens}
use Rattle.grammar.specs.Rules.{text_ok}

-- "A reading is a tree of these parts that takes up the whole text in order, cuts no word (a run of letters, digits
-- and underscores) and leaves out only spaces and line ends between parts". How the closing comments are laid out is no
-- part of the tree.
pub record Reading (tree : Text) (bytes : List ℕ) : Type 0 where
  pub keeps_rules : text_ok tree ≡ true
  pub closings : Closings tree
  pub laid_out : Layout (text_tokens tree closings) bytes

-- exactly one reading; "two readings are one when their trees are equal"
pub record OneReading (bytes : List ℕ) : Type 0 where
  pub tree : Text
  pub reads : Reading tree bytes
  pub equal : (a b : Text) → Reading a bytes → Reading b bytes → a ≡ b
