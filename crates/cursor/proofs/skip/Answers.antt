use mathlib.Core.Path.{refl}
use Rattle.cursor.proofs.FieldLaws.{value, cut}
use Rattle.cursor.proofs.CheckLaws.{refused}
use Rattle.cursor.proofs.skip.Goals as goal

pub returns-in_err-f : goal.returns-in_err-f
returns-in_err-f c = refused c.from_residual.ensures.1 (cut c.read.ensures c.in_err-f.was)

pub returns : goal.returns
returns c = rw (value c.read.ensures c.in_ok-f.was) record { step = refl }
