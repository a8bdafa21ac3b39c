use Rattle.out.specs.State.{content_of}
use Rattle.out.proofs.FlushLaws.{flushing_none, flushing_some}
use Rattle.out.proofs.flush_blocks.Goals as goal

pub returns-then-count-eq0 : goal.returns-then-count-eq0
unfolding content_of
returns-then-count-eq0 c = flushing_none _ _ _ _ c.if-count-eq0.true

pub returns : goal.returns
unfolding content_of
returns c = flushing_some _ _ c.if-count-eq0.false c.flush_all.ensures
