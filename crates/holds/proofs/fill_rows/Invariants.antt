use Rattle.view.specs.Values.{items_at}
use Rattle.holds.proofs.EdgeLaws.{Filling}
use Rattle.holds.proofs.fill_rows.Given as goal

abbrev pub invariant-loop-i : goal.invariant-loop-i
invariant-loop-i l = Filling (items_at l.s l.names l.items) l.i l.end l.starts l.held
