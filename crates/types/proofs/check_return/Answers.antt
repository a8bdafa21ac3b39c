use Rattle.format.specs.Decoding.{type}
use Rattle.marks.proofs.GatherLaws.{refused}
use Rattle.types.proofs.MarkLaws.{return_past}
use Rattle.types.proofs.check_return.Goals as goal

pub returns-then-at-gt-LAST : goal.returns-then-at-gt-LAST
unfolding type
returns-then-at-gt-LAST c = refused (return_past _ _ _ c.requires c.if-at-gt-LAST.true _)

pub returns : goal.returns
unfolding type
returns c = rw c.step_in.ensures c.walk_return.ensures
