-- The table of held structs that the code walks (adjacency lists in a row), and what its functions promise.
use Rattle.std.specs.Prelude.{◌≡◌, List, [], ◌∷◌, ℕ, zero, suc, ◌+◌, ◌-◌, ◌*◌, ◌<◌, ◌≤◌, length, get_or, take, drop}
use Rattle.std.specs.Prelude.{Result, Ok, Err}
use Rattle.format.specs.Limits.{most_items, most_fields}
use Rattle.toposort.specs.declared.Cycle.{Cycle}
use Rattle.toposort.specs.Graph.{Graph, Within}
use Rattle.toposort.specs.Sort.{Walk, cycle, done, visit_all, visit, sort}

-- an item's number is a byte: there is one number more than a sheet has items
abbrev pub item_numbers : ℕ
item_numbers = most_items + 1

-- no more structs are held than all structs have fields
abbrev pub most_held : ℕ
most_held = most_items * most_fields

-- item i holds what stands in `held` from starts[i] up to starts[i + 1]
unfoldable pub graph_of : List ℕ → List ℕ → Graph
graph_of starts held i = take (get_or starts (i + 1) 0 - get_or starts i 0) (drop (get_or starts i 0) held)

-- the code's two arrays
pub record Adjacency (starts held : List ℕ) : Type 0 where
  pub size : length held ≤ most_held
  pub inside : (i : ℕ) → i < item_numbers → get_or starts (i + 1) 0 ≤ length held
  pub within : Within (graph_of starts held) item_numbers

-- how many items have no mark
unfoldable pub unmarked : List ℕ → ℕ
unmarked [] = 0
unmarked (zero ∷ marks) = suc (unmarked marks)
unmarked (suc m ∷ marks) = unmarked marks

-- there is a mark for each item, and a place in the order, from `at` on, for each that has none
pub record Room (m o : List ℕ) (at : ℕ) : Type 0 where
  pub marks : length m ≡ item_numbers
  pub order : length o ≡ item_numbers
  pub places : at + unmarked m ≤ item_numbers

-- the walk that a traversal's end tells of, with the marks and the order as they are then
abbrev pub walk_of : Result ℕ Cycle → List ℕ → List ℕ → Walk
walk_of (Ok end) marks order = done marks (take end order)
walk_of (Err e) marks order = cycle

abbrev pub end_of : Result ℕ Cycle → ℕ
end_of (Ok end) = end
end_of (Err e) = 0

-- struct i was visited: m, o and at are the marks, the order and its end before, r the answer, m₁ and o₁ what is left
pub record Visited (g : Graph) (levels i : ℕ) (m o : List ℕ) (at : ℕ) (r : Result ℕ Cycle) (m₁ o₁ : List ℕ)
    : Type 0 where
  pub same : walk_of r m₁ o₁ ≡ visit g levels i m (take at o)
  pub inside : end_of r ≤ length o₁
  pub kept : length o₁ ≡ length o

-- the same of the structs js, one after the other
pub record VisitedAll (g : Graph) (levels : ℕ) (js m o : List ℕ) (at : ℕ) (r : Result ℕ Cycle) (m₁ o₁ : List ℕ)
    : Type 0 where
  pub same : walk_of r m₁ o₁ ≡ visit_all (visit g levels) js m (take at o)
  pub inside : end_of r ≤ length o₁
  pub kept : length o₁ ≡ length o

-- the structs js were sorted
pub record Sorted (g : Graph) (js : List ℕ) (r : Result ℕ Cycle) (m₁ o₁ : List ℕ) : Type 0 where
  pub same : walk_of r m₁ o₁ ≡ sort g item_numbers js
  pub inside : end_of r ≤ length o₁
  pub kept : length o₁ ≡ item_numbers
