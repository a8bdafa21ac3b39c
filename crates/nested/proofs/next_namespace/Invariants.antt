use mathlib.Core.Path.{◌≡◌}
use Prim.Native.Nat.{◌≤◌}
use Rattle.view.specs.Values.{items_at, item_no}
use Rattle.nested.specs.Groups.{names_before}
use Rattle.nested.proofs.next_namespace.Given as goal

abbrev pub invariant-loop-i : goal.invariant-loop-i
invariant-loop-i l =
    (l.from ≤ l.i) × (names_before (items_at l.s l.names l.items) (item_no l.s l.names
    l.items l.leader.number) l.depth l.i ≡ names_before (items_at l.s l.names l.items) (item_no l.s l.names
    l.items l.leader.number) l.depth l.from)
