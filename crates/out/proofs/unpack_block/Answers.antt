use Rattle.out.proofs.EntryLaws.{namespace_unpacked}
use Rattle.out.proofs.unpack_block.Goals as goal

pub returns-then-n-eq0 : goal.returns-then-n-eq0
returns-then-n-eq0 c = rw c.if-n-eq0.true

pub returns : goal.returns
returns c = namespace_unpacked _ c.if-n-eq0.false
