use Rattle.shape.proofs.needs_comma.Goals as goal

pub returns-then-others : goal.returns-then-others
returns-then-others c = rw c.if-others.true

pub returns-else-others : goal.returns-else-others
returns-else-others c = rw c.if-others.false
