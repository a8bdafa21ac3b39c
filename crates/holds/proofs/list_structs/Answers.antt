use native.Mathlib.Omega.{arith}
use Rattle.holds.proofs.EdgeLaws.{items_there, items_passed, list_next, list_done}
use Rattle.holds.proofs.list_structs.Goals as goal

pub loop-i-preserved : goal.loop-i-preserved
loop-i-preserved c =
    list_next c.loop-i.invariant (omega (arith, c.requires.few, c.loop-i.invariant.few))
    (items_there _ _ _ (omega arith)) c.struct_at.ensures (rw c.then_some-number.ensures at c.put-n.ensures)

pub returns : goal.returns
returns c = list_done (items_passed _ _ _ (omega arith)) c.loop-i.invariant
