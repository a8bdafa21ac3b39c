use native.Mathlib.Omega.{arith}
use Rattle.cursor.proofs.FieldLaws.{field_past, field_cut, field_whole}
use Rattle.cursor.proofs.read.Goals as goal

pub returns-then-at-gt-LAST : goal.returns-then-at-gt-LAST
returns-then-at-gt-LAST c = field_past _ _ _ c.requires.0 c.if-at-gt-LAST.true

pub returns-then-end_of-end : goal.returns-then-end_of-end
returns-then-end_of-end c = field_cut _ c.args.s.now _ (omega arith)

pub returns : goal.returns
returns c = field_whole c.args.n c.args.s.now c.args.c.at (omega arith) c.extract.ensures
