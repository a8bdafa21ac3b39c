use Rattle.view.specs.Values.{items_at}
use Rattle.holds.proofs.EdgeLaws.{Flagging}
use Rattle.holds.proofs.flag_structs.Given as goal

abbrev pub invariant-loop-i : goal.invariant-loop-i
invariant-loop-i l = Flagging (items_at l.s l.names l.items) l.i l.structs
