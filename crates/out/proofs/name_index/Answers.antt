use native.Mathlib.Omega.{arith}
use Rattle.cursor.proofs.WidthLaws.{width_le}
use Rattle.view.proofs.ItemLaws.{span}
use Rattle.out.proofs.StateLaws.{indexes}
use Rattle.out.proofs.name_index.Goals as goal

pub overflow_mul-at : goal.overflow_mul-at
overflow_mul-at c = omega (arith, span c.args.d c.width-w.result (omega arith) (width_le _ c.width-w.ensures))

pub overflow_add-at : goal.overflow_add-at
overflow_add-at c = omega (arith, span c.args.d c.width-w.result (omega arith) (width_le _ c.width-w.ensures))

pub field-name-requires : goal.field-name-requires
field-name-requires c = (c.requires.0.limited, width_le _ c.width-w.ensures)

pub returns : goal.returns
returns c = indexes _ _ _ _ c.width-w.ensures (rw c.new.ensures at c.field-name.ensures)
