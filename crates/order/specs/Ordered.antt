-- What is promised of a sheet's structs in order.
use Rattle.std.specs.Prelude.{◌≡◌, List, ℕ, ◌≤◌, length, take, Result, is_err}
use Rattle.format.specs.Sheet.{Item}
use Rattle.toposort.specs.declared.Cycle.{Cycle}
use Rattle.toposort.specs.Sort.{order}
use Rattle.toposort.specs.Adjacency.{end_of}
use Rattle.rules.specs.Rules.{held_structs, structs, ring}

-- the list is in front of out; where there is a ring, nothing is
pub record Ordered (items : List Item) (r : Result ℕ Cycle) (out : List ℕ) : Type 0 where
  pub rings : is_err r ≡ ring items
  pub list : take (end_of r) out ≡ order (held_structs items) (length items) (structs items)
  pub inside : end_of r ≤ length out
