use mathlib.Core.Path.{◌≡◌}
use Prim.Native.Nat.{◌-◌}
use lib.ListN.{drop}
use Rattle.view.specs.Values.{item_no}
use Rattle.nested.specs.Groups.{shared}
use Rattle.nested.proofs.shares.Given as goal

abbrev pub invariant-loop-d : goal.invariant-loop-d
invariant-loop-d l =
    shared l.depth (item_no l.s l.names l.items l.v.number).namespace (item_no l.s l.names l.items
    l.w.number).namespace ≡ shared (l.depth - l.d) (drop l.d (item_no l.s l.names l.items l.v.number).namespace)
    (drop l.d (item_no l.s l.names l.items l.w.number).namespace)
