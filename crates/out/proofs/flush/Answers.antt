use Rattle.out.proofs.FlushLaws.{sets_listed, flushes}
use Rattle.out.proofs.flush.Goals as goal

pub set_none-requires : goal.set_none-requires
set_none-requires c = (c.requires.0.tabled, c.requires.1, c.requires.2)

pub flush_blocks-f-requires : goal.flush_blocks-f-requires
flush_blocks-f-requires c = (c.requires.0, sets_listed _ _ c.set_none.ensures c.requires.2)

pub returns : goal.returns
returns c = flushes _ _ c.set_none.ensures c.flush_blocks-f.ensures
