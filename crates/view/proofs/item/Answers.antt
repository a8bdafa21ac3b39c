use native.Mathlib.Omega.{arith}
use Prim.Native.Nat.{◌%◌}
use mathlib.Core.Path.{refl}
use Rattle.cursor.proofs.WidthLaws.{width_le}
use Rattle.view.proofs.ItemLaws.{span, head_room, title_room, item_there}
use Rattle.view.proofs.item.Goals as goal

pub extract-head-requires : goal.extract-head-requires
extract-head-requires c = (c.requires.0.named.limited, omega arith, head_room c.requires.0 c.requires.1)

pub overflow_add-from : goal.overflow_add-from
overflow_add-from c = omega (arith, c.requires.0.named.limited, head_room c.requires.0 c.requires.1)

pub overflow_mul-title : goal.overflow_mul-title
overflow_mul-title c =
    omega (arith, span (c.extract-head.result % 8) c.width-w.result (omega arith) (width_le _ c.width-w.ensures))

pub overflow_add-title : goal.overflow_add-title
overflow_add-title c =
    omega (
      arith,
      c.requires.0.named.limited,
      title_room c.requires.0 c.requires.1 c.extract-head.ensures
          c.width-w.ensures,
    )

pub extract-name-requires : goal.extract-name-requires
extract-name-requires c = (
  c.requires.0.named.limited,
  width_le _ c.width-w.ensures,
  title_room c.requires.0 c.requires.1
      c.extract-head.ensures c.width-w.ensures,
)

pub overflow_add-title-2 : goal.overflow_add-title-2
overflow_add-title-2 c =
    omega (
      arith,
      c.requires.0.named.limited,
      title_room c.requires.0 c.requires.1 c.extract-head.ensures
          c.width-w.ensures,
    )

pub returns : goal.returns
returns c = (
  refl,
  rw (c.new-body.ensures, c.new-spaces.ensures) (item_there c.requires.0 c.requires.1 c.extract-head.ensures
      c.width-w.ensures c.part_of-of.ensures c.extract-name.ensures),
)
