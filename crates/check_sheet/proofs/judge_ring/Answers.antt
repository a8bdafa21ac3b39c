use Rattle.check_sheet.proofs.judge_ring.Goals as goal

pub returns-then-ring : goal.returns-then-ring
returns-then-ring c = rw c.if-ring.true

pub returns : goal.returns
returns c = rw c.if-ring.false
