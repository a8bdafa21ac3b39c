use native.Mathlib.Omega.{arith}
use Rattle.holds.proofs.EdgeLaws.{items_passed, flag_done}
use Rattle.holds.proofs.flag_structs.Goals as goal

pub returns : goal.returns
returns c = flag_done (items_passed _ _ _ (omega arith)) c.loop-i.invariant
