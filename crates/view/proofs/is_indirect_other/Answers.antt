use mathlib.Core.Path.{◌∙◌, ap}
use native.Mathlib.Omega.{arith}
use Rattle.cursor.proofs.WidthLaws.{width_le}
use Rattle.types.proofs.KindLaws.{kind_room}
use Rattle.syntax.specs.Types.{needs_indirect_abi}
use Rattle.view.specs.Views.{is_indirect_kind}
use Rattle.view.proofs.TypeLaws.{named_room, named_there, indirect_other}
use Rattle.view.proofs.is_indirect_other.Goals as goal

pub overflow_add-c : goal.overflow_add-c
overflow_add-c c = omega (arith, c.requires.0.named.limited, kind_room _ _ _ c.requires.1)

pub extract-i-requires : goal.extract-i-requires
extract-i-requires c = (
  c.requires.0.named.limited,
  width_le _ c.width.ensures,
  named_room _ _ _ c.requires.1 c.requires.2
      c.if-k-eq1.true c.width.ensures,
)

pub pointer_bit-requires : goal.pointer_bit-requires
pointer_bit-requires c = (
  c.requires.0,
  (named_there _ _ _ c.requires.1 c.requires.2 c.if-k-eq1.true c.width.ensures
      c.extract-i.ensures).1,
)

pub returns-then-k-eq1 : goal.returns-then-k-eq1
unfolding needs_indirect_abi
returns-then-k-eq1 c =
    rw (named_there _ _ _ c.requires.1 c.requires.2 c.if-k-eq1.true c.width.ensures c.extract-i.ensures).0
    c.pointer_bit.ensures

pub returns : goal.returns
returns c =
    c.is_indirect_kind.ensures ∙ ap is_indirect_kind c.kind_of.ensures ∙ indirect_other _ _ _ c.requires.1
    c.requires.2 c.requires.3 _ c.if-k-eq1.false
