use Rattle.std.proofs.Common.{arith}
use Rattle.summary.proofs.count.behind_local.Goals as goal

pub returns-then-held : goal.returns-then-held
returns-then-held c = rw c.if-held.true (omega arith)

pub returns : goal.returns
returns c = rw c.if-held.false
