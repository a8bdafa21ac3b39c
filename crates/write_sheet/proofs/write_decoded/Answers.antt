use native.Mathlib.Omega.{arith}
use mathlib.Core.Path.{sym}
use lib.Seq.{length-take-le}
use Rattle.check_sheet.proofs.CheckLaws.{ready_tables, marked_tables}
use Rattle.write_sheet.proofs.JudgeLaws.{writes_tables}
use Rattle.write_sheet.proofs.write_decoded.Goals as goal

pub slice_bounds-write_judged-end : goal.slice_bounds-write_judged-end
slice_bounds-write_judged-end c = sym (length-take-le _ _ (omega (arith, c.requires.0.few)))

pub slice_bounds-write_judged-end-2 : goal.slice_bounds-write_judged-end-2
slice_bounds-write_judged-end-2 c = sym (length-take-le _ _ (omega (arith, c.requires.0.items.few)))

pub slice_bounds-write_judged-end-3 : goal.slice_bounds-write_judged-end-3
slice_bounds-write_judged-end-3 c = sym (length-take-le _ _ (omega (arith, c.requires.0.few)))

pub write_judged-requires : goal.write_judged-requires
write_judged-requires c =
    (ready_tables _ c.requires.0 c.requires.1 c.requires.2, marked_tables _ c.requires.0 c.requires.1 c.requires.2)

pub returns : goal.returns
returns c = writes_tables _ c.requires.0 c.requires.1 c.requires.2 c.write_judged.ensures
