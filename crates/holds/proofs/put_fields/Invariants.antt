use Prim.Native.Nat.{◌-◌}
use lib.ListN.{length}
use Rattle.view.specs.Values.{items_at}
use Rattle.holds.specs.Edges.{fields_here}
use Rattle.holds.proofs.FieldLaws.{Walking}
use Rattle.holds.proofs.put_fields.Given as goal

abbrev pub invariant-loop : goal.invariant-loop
invariant-loop l =
    Walking (items_at l.s l.names l.items) (length l.items) l.s (fields_here (length l.items) l.n l.s
    l.initial.next.at) l.at l.initial.held (l.n - l.counter) l.next.at l.end l.held
