use lib.Count.{leading_le}
use Rattle.cursor.proofs.WidthLaws.{width_is, width_none}
use Rattle.cursor.proofs.width.Goals as goal

pub returns-then-n-eq0 : goal.returns-then-n-eq0
returns-then-n-eq0 c = width_none _ c.if-n-eq0.true

pub overflow_sub-result-2 : goal.overflow_sub-result-2
overflow_sub-result-2 c = leading_le 32 _

pub returns : goal.returns
returns c = width_is c.args.n
