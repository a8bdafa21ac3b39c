use Rattle.std.proofs.Common.{refl}
use Rattle.write_chain.proofs.end_length.Goals as goal

pub returns-then-spaced : goal.returns-then-spaced
returns-then-spaced c = rw c.if-spaced.true c.space_length.ensures

pub returns : goal.returns
returns c = rw c.if-spaced.false refl
