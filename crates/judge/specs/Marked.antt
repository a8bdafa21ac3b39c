-- The table of marks of a decoded sheet, and what rules 9 and 11 ask of its items.
use Rattle.std.specs.Prelude.{◌≡◌, List, Bool, ◌&&◌, ℕ, replicate}
use Rattle.syntax.specs.Items.{is_function}
use Rattle.syntax.specs.Types.{pointer_bit}
use Rattle.marks.specs.Marking.{places, error_at, named_at, mark_items}
use Rattle.marks.specs.Reading.{marked}
use Rattle.view.specs.Values.{items_at, item_no}

-- the table has the marks of the sheet's items, and no other
pub record Marked (s names items marks : List ℕ) : Type 0 where
  pub is : marks ≡ mark_items (items_at s names items) (replicate places 0)

-- item i is a function, and an item index names it
abbrev pub named_function : List ℕ → List ℕ → List ℕ → List ℕ → ℕ → Bool
named_function s names items marks i = is_function (item_no s names items i).body && marked marks (named_at i)

-- item i is indirect, and types an argument `error` of a throwing function
abbrev pub indirect_error : List ℕ → List ℕ → List ℕ → List ℕ → ℕ → Bool
indirect_error s names items marks i = pointer_bit (item_no s names items i).body && marked marks (error_at i)
