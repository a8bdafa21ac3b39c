use native.Mathlib.Omega.{arith}
use Rattle.count_type.proofs.CountLaws.{wrote_counted}
use Rattle.shape.proofs.write_spaced.Goals as goal

pub returns-then-n-gt0 : goal.returns-then-n-gt0
returns-then-n-gt0 c =
    wrote_counted c.if-out-at.true c.count_type-n.ensures c.if-n-gt0.true (omega arith) c.advance.ensures
