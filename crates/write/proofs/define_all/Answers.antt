use native.Mathlib.Omega.{arith}
use mathlib.Core.Path.{refl}
use Rattle.sections.proofs.StateLaws.{representing_after}
use Rattle.write.proofs.PassLaws.{pass_none, pass_next, pass_all}
use Rattle.tables.proofs.TableLaws.{items_count_lem}
use Rattle.write.proofs.define_all.Goals as goal

pub loop-i-init : goal.loop-i-init
loop-i-init c = (pass_none _ _ _ _ _ _, refl, refl)

pub define-requires : goal.define-requires
define-requires c = (
  c.requires.0,
  c.requires.1,
  omega (arith, items_count_lem c.requires.0.tabled),
  c.requires.2,
  omega (arith, c.loop-i.invariant.1, c.requires.3),
  representing_after c.requires.4 c.loop-i.invariant.0.runs,
)

pub loop-i-preserved : goal.loop-i-preserved
loop-i-preserved c = (
  pass_next _ _ _ _ (omega (arith, items_count_lem c.requires.0.tabled)) c.loop-i.invariant.0
      c.define.ensures,
  omega (arith, c.loop-i.invariant.1, c.define.auto),
  omega (
    arith,
    c.loop-i.invariant.2,
    c.define.auto,
  ),
)

pub returns : goal.returns
returns c =
    pass_all _ _ _ _ (omega (arith, items_count_lem c.requires.0.tabled)) c.loop-i.invariant.0
