use Rattle.view.specs.Values.{items_at}
use Rattle.holds.proofs.EdgeLaws.{Listing}
use Rattle.holds.proofs.list_structs.Given as goal

abbrev pub invariant-loop-i : goal.invariant-loop-i
invariant-loop-i l = Listing (items_at l.s l.names l.items) l.i l.n l.numbers
