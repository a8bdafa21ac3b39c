use native.Mathlib.Omega.{arith}
use Rattle.doc.proofs.DocLaws.{writing_none, writing_yields, writing_one, writing_done}
use Rattle.doc.proofs.write_lines.Goals as goal

pub loop-init : goal.loop-init
loop-init c = writing_none _ _ _ _ _ _ (omega arith) c.requires.1

pub write_line-w-requires : goal.write_line-w-requires
write_line-w-requires c = (omega arith, writing_yields _ _ _ _ _ (omega arith) c.loop.invariant)

pub loop-preserved : goal.loop-preserved
loop-preserved c =
    writing_one _ _ _ _ (omega arith) c.loop.invariant c.write_line-w.ensures.0 c.write_line-w.ensures.1

pub returns : goal.returns
returns c = writing_done _ _ _ _ _ (omega arith) c.loop.invariant
