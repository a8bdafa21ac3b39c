use native.Mathlib.Omega.{arith}
use Rattle.write.proofs.PassLaws.{begins_none, begins_some}
use Rattle.write.proofs.behind_forward.Goals as goal

pub returns-then-at-eq0 : goal.returns-then-at-eq0
returns-then-at-eq0 c = begins_none c.new.ensures c.placed.ensures c.next_section.ensures c.if-at-eq0.true

pub returns-else-at-eq0 : goal.returns-else-at-eq0
returns-else-at-eq0 c = begins_some c.new.ensures c.placed.ensures (omega (arith, c.if-at-eq0.false))
