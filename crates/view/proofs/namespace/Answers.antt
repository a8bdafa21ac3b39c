use native.Mathlib.Omega.{arith}
use Rattle.cursor.proofs.WidthLaws.{width_le}
use Rattle.view.proofs.ItemLaws.{span, space_room, space_is}
use Rattle.view.proofs.namespace.Goals as goal

pub overflow_mul-at : goal.overflow_mul-at
overflow_mul-at c =
    omega (
      arith,
      span c.args.d c.width-w.result (omega (arith, c.requires.1.view.shallow)) (width_le _
          c.width-w.ensures),
    )

pub overflow_add-at : goal.overflow_add-at
overflow_add-at c =
    omega (
      arith,
      span c.args.d c.width-w.result (omega (arith, c.requires.1.view.shallow)) (width_le _
          c.width-w.ensures),
      c.requires.1.view.near,
    )

pub extract-requires : goal.extract-requires
extract-requires c = (
  c.requires.0.named.limited,
  width_le _ c.width-w.ensures,
  space_room _ _ c.args.v.spaces.at c.args.d
      c.requires.1.view.spaces c.requires.2 c.width-w.ensures,
)

pub returns : goal.returns
returns c =
    space_is _ _ c.args.v.spaces.at c.args.d c.requires.1.view.spaces c.requires.2 c.width-w.ensures
    c.requires.0.named.limited c.extract.ensures
