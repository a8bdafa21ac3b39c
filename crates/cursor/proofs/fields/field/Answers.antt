use native.Mathlib.Omega.{arith}
use Rattle.cursor.proofs.YieldLaws.{finds_value, finds_none}
use Rattle.cursor.proofs.fields.field.Goals as goal

pub returns-in-Ok : goal.returns-in-Ok
returns-in-Ok c = finds_value _ _ _ (omega arith) c.read.ensures c.in-Ok.is

pub returns-in-Err : goal.returns-in-Err
returns-in-Err c = rw c.new.ensures (finds_none _ _ _ c.read.ensures c.in-Err.is)
