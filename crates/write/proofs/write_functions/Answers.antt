use native.Mathlib.Omega.{arith}
use Rattle.sections.proofs.StateLaws.{representing_after}
use Rattle.write.proofs.PassLaws.{functions_header, functions_both}
use Rattle.write.proofs.write_functions.Goals as goal

pub returns-then-header : goal.returns-then-header
returns-then-header c = functions_header _ c.if-header.true c.define_all.ensures

pub define_all-requires-2 : goal.define_all-requires-2
define_all-requires-2 c = (
  c.requires.0,
  c.requires.1,
  c.requires.2,
  omega (arith, c.declare_all.auto, c.requires.3),
  representing_after
      c.requires.4 c.declare_all.ensures,
)

pub returns : goal.returns
returns c = functions_both _ c.if-header.false c.declare_all.ensures c.define_all-2.ensures
