use native.Mathlib.Omega.{arith}
use Rattle.cursor.proofs.WidthLaws.{width_le}
use Rattle.view.proofs.FunctionLaws.{form_room, form_none, owner_room, form_some}
use Rattle.view.proofs.form_at.Goals as goal

pub extract-k-requires : goal.extract-k-requires
extract-k-requires c = (c.requires.0, omega arith, form_room _ _ _ c.requires.0 c.requires.1)

pub overflow_add-at : goal.overflow_add-at
overflow_add-at c = omega (arith, c.requires.0, form_room _ _ _ c.requires.0 c.requires.1)

pub returns-then-k-eq0 : goal.returns-then-k-eq0
returns-then-k-eq0 c =
    rw c.new.ensures (form_none _ _ _ c.requires.0 c.requires.1 c.extract-k.ensures c.if-k-eq0.true)

pub extract-i-requires : goal.extract-i-requires
extract-i-requires c = (
  c.requires.0,
  width_le _ c.width-w.ensures,
  owner_room _ _ _ c.requires.0 c.requires.1 c.extract-k.ensures
      c.if-k-eq0.false c.width-w.ensures,
)

pub overflow_add-at-2 : goal.overflow_add-at-2
overflow_add-at-2 c =
    omega (
      arith,
      c.requires.0,
      owner_room _ _ _ c.requires.0 c.requires.1 c.extract-k.ensures c.if-k-eq0.false
          c.width-w.ensures,
    )

pub returns : goal.returns
returns c =
    rw c.new-3.ensures (form_some _ _ _ c.requires.0 c.requires.1 c.extract-k.ensures c.if-k-eq0.false c.width-w.ensures
    c.extract-i.ensures c.new-2.ensures)
