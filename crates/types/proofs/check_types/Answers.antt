use mathlib.Core.Path.{refl}
use Rattle.format.specs.Decoding.{type}
use Rattle.marks.proofs.GatherLaws.{refused}
use Rattle.format.specs.Decode.{many}
use Rattle.marks.specs.Gathering.{each}
use Rattle.types.proofs.MarkLaws.{types_past}
use Rattle.types.proofs.check_types.Goals as goal

pub returns-then-n-eq0 : goal.returns-then-n-eq0
unfolding many each
returns-then-n-eq0 c = rw c.if-n-eq0.true record { gathered = refl }

pub returns-then-at-gt-LAST : goal.returns-then-at-gt-LAST
unfolding type
returns-then-at-gt-LAST c = refused (types_past _ _ _ c.requires c.if-at-gt-LAST.true _ _ c.if-n-eq0.false)

pub returns : goal.returns
unfolding type
returns c = rw c.step_in.ensures c.walk_types.ensures
