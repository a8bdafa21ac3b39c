use native.Mathlib.Omega.{arith}
use mathlib.Core.Path.{refl}
use Rattle.sink.proofs.StoreLaws.{stored_next}
use Rattle.sink.proofs.copy_at.Goals as goal

pub loop-i-preserved : goal.loop-i-preserved
loop-i-preserved c = stored_next c.loop-i.invariant (omega arith) refl
