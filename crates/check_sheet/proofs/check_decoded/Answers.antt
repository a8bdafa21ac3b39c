use native.Mathlib.Omega.{arith}
use mathlib.Core.Path.{sym}
use lib.Seq.{length-take-le}
use Rattle.check_sheet.proofs.CheckLaws.{check_tables, ready_tables, marked_tables}
use Rattle.check_sheet.proofs.check_decoded.Goals as goal

pub slice_bounds-judge-end : goal.slice_bounds-judge-end
slice_bounds-judge-end c = sym (length-take-le _ _ (omega (arith, c.requires.0.few)))

pub slice_bounds-judge-end-2 : goal.slice_bounds-judge-end-2
slice_bounds-judge-end-2 c = sym (length-take-le _ _ (omega (arith, c.requires.0.items.few)))

pub slice_bounds-judge-end-3 : goal.slice_bounds-judge-end-3
slice_bounds-judge-end-3 c = sym (length-take-le _ _ (omega (arith, c.requires.0.few)))

pub judge-requires : goal.judge-requires
judge-requires c =
    (ready_tables _ c.requires.0 c.requires.1 c.requires.2, marked_tables _ c.requires.0 c.requires.1 c.requires.2)

pub returns : goal.returns
returns c = check_tables _ c.requires.0 c.requires.1 c.requires.2 c.judge.ensures
