use mathlib.Core.Path.{◌≡◌}
use Prim.Native.Nat.{◌+◌, ◌≤◌}
use lib.ListN.{drop}
use Rattle.marks.specs.Keys.{count_of}
use Rattle.marks.proofs.count_equal.Given as goal

abbrev pub invariant-loop-x : goal.invariant-loop-x
invariant-loop-x l = (l.n ≤ l.x-index) × (l.n + count_of l.k (drop l.x-index l.keys) ≡ count_of l.k l.keys)
