use mathlib.Core.Path.{◌≡◌}
use Prim.Native.Nat.{◌+◌}
use lib.ListN.{drop}
use Rattle.rules.specs.Rules.{any}
use Rattle.view.specs.Values.{items_at, item_no}
use Rattle.clash.specs.Clashes.{clashes}
use Rattle.clash.proofs.clash_behind.Given as goal

abbrev pub invariant-loop-j : goal.invariant-loop-j
invariant-loop-j l =
    any (clashes (items_at l.s l.names l.items) (item_no l.s l.names l.items l.v.number))
    (drop (l.v.number + 1) (items_at l.s l.names l.items)) ≡ any (clashes (items_at l.s l.names l.items)
    (item_no l.s l.names l.items l.v.number)) (drop l.j (items_at l.s l.names l.items))
