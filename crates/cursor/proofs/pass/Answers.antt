use native.Mathlib.Omega.{arith}
use Rattle.cursor.proofs.CodeLaws.{passes, passes_cut}
use Rattle.cursor.proofs.pass.Goals as goal

pub returns-then-end_of-end : goal.returns-then-end_of-end
returns-then-end_of-end c = passes_cut _ _ _ (omega arith)

pub returns : goal.returns
returns c = passes _ _ _ c.requires.0 (omega arith)
