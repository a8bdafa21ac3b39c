use Rattle.out.proofs.EntryLaws.{begin_unpacked, end_unpacked}
use Rattle.out.proofs.unpack.Goals as goal

pub returns-then-p-eq0 : goal.returns-then-p-eq0
returns-then-p-eq0 c = begin_unpacked _ c.unpack_block-block.ensures c.if-p-eq0.true

pub returns : goal.returns
returns c = end_unpacked _ c.unpack_block-block.ensures c.if-p-eq0.false
