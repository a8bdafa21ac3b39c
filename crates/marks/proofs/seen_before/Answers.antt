use Rattle.marks.proofs.KeyLaws.{counted}
use Rattle.marks.proofs.seen_before.Goals as goal

pub returns-then-mark-eq1 : goal.returns-then-mark-eq1
returns-then-mark-eq1 c = counted c.args.k c.args.mark c.args.front.now c.if-mark-eq1.true c.count_equal.ensures
