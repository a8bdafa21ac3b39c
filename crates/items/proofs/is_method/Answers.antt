use native.Mathlib.Omega.{arith}
use Rattle.cursor.proofs.FieldLaws.{value, cut}
use Rattle.items.proofs.ItemLaws.{method_is, method_none, method_cut}
use Rattle.items.proofs.is_method.Goals as goal

pub returns-in-1 : goal.returns-in-1
returns-in-1 c = method_is _ _ (value c.read.ensures c.in-Ok.is) (omega arith) (omega arith)

pub returns-in_default : goal.returns-in_default
returns-in_default c = method_none _ _ (value c.read.ensures c.in-Ok.is) (λ y z. omega arith)

pub returns-in_default-2 : goal.returns-in_default-2
returns-in_default-2 c = method_none _ _ (value c.read.ensures c.in-Ok.is) (λ y z. omega arith)

pub returns-in-Err : goal.returns-in-Err
returns-in-Err c = method_cut _ _ (cut c.read.ensures c.in-Err.is)
