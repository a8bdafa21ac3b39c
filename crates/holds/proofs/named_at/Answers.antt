use native.Mathlib.Omega.{arith}
use Rattle.cursor.proofs.WidthLaws.{width_le}
use Rattle.holds.proofs.EdgeLaws.{items_there}
use Rattle.holds.proofs.FieldLaws.{found_there, tells_named}
use Rattle.holds.proofs.named_at.Goals as goal

pub field-index-requires : goal.field-index-requires
field-index-requires c = (c.requires.0.named.limited, width_le _ c.width-w.ensures)

pub bounds-structs-i : goal.bounds-structs-i
bounds-structs-i c =
    omega (
      arith,
      c.requires.0.few,
      c.requires.1.size,
      found_there _ _ _ c.requires.2 c.width-w.ensures
          c.field-index.ensures,
    )

pub overflow_cast-i : goal.overflow_cast-i
overflow_cast-i c =
    omega (arith, c.requires.0.few, found_there _ _ _ c.requires.2 c.width-w.ensures c.field-index.ensures)

pub returns : goal.returns
returns c =
    tells_named _ _ _ c.requires.2 c.width-w.ensures c.field-index.ensures _ (c.requires.1.each _ (items_there _ _ _
    (found_there _ _ _ c.requires.2 c.width-w.ensures c.field-index.ensures))) c.then_some.ensures
