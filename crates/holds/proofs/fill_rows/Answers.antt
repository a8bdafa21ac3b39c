use native.Mathlib.Omega.{arith}
use Rattle.holds.proofs.EdgeLaws.{items_passed, fill_next, filling_all, fill_done}
use Rattle.holds.proofs.fill_rows.Goals as goal

pub loop-i-preserved : goal.loop-i-preserved
loop-i-preserved c =
    let p = c.put_item-end.ensures in fill_next c.loop-i.invariant (omega arith) p.0 p.1 p.2

pub returns : goal.returns
returns c = fill_done (items_passed _ _ _ c.requires.0.few) (filling_all (omega arith) c.loop-i.invariant)
