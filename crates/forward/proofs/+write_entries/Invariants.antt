use mathlib.Core.Path.{◌≡◌}
use mathlib.Core.Bool.{true}
use Prim.Native.Nat.{◌-◌, ◌<◌, ◌≤◌}
use lib.ListN.{length}
use Rattle.format.specs.Limits.{most_namespaces}
use Rattle.sink.specs.Sink.{sink, Wrote}
use Rattle.nested.specs.Groups.{opens}
use Rattle.forward.specs.Entries.{namespaces_before}
use Rattle.tables.specs.Tables.{items_of, item_of, items_in}
use Rattle.forward.proofs.+write_entries.Given as goal

abbrev pub decreases-write_entries : goal.decreases-write_entries
decreases-write_entries l = most_namespaces - l.depth

abbrev pub invariant-loop-i : goal.invariant-loop-i
invariant-loop-i l =
    (l.i ≤ length (items_of l.s l.t)) × (l.i < length (items_of l.s l.t) → opens (items_of l.s l.t) (item_of l.s l.t
    l.leader.number) l.depth l.i ≡ true) × Wrote (sink l.initial.out l.initial.here) (namespaces_before
    (items_of l.s l.t) (item_of l.s l.t l.leader.number) l.depth l.i) (sink l.out l.here)

abbrev pub decreases-loop-i : goal.decreases-loop-i
decreases-loop-i l = length (items_in l.t) - l.i
