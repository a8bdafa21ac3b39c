use native.Mathlib.Omega.{arith}
use Rattle.cursor.proofs.CodeLaws.{bits_cut, bits_whole}
use Rattle.cursor.proofs.WidthLaws.{width_le}
use Rattle.types.proofs.MarkLaws.{index_cut, index_marked, index_loose}
use Rattle.types.proofs.walk_index.Goals as goal

pub overflow_add-end : goal.overflow_add-end
overflow_add-end c = omega (arith, width_le _ c.width-w.ensures)

pub returns-then-end_of-end : goal.returns-then-end_of-end
returns-then-end_of-end c = index_cut _ _ _ c.width-w.ensures (bits_cut _ _ _ (omega arith))

pub extract-i-requires : goal.extract-i-requires
extract-i-requires c = (omega arith, width_le _ c.width-w.ensures, omega arith)

pub returns-then-items-i : goal.returns-then-items-i
returns-then-items-i c =
    index_loose _ _ _ c.width-w.ensures (bits_whole _ _ _ (omega arith) c.extract-i.ensures) c.if-items-i.true

pub returns : goal.returns
returns c =
    index_marked _ _ _ c.width-w.ensures (bits_whole _ _ _ (omega arith) c.extract-i.ensures) (omega arith)
    (omega arith) c.set_mark.ensures
