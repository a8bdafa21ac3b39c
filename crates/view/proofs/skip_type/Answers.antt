use native.Mathlib.Omega.{arith}
use Rattle.cursor.proofs.WidthLaws.{width_le}
use Rattle.types.proofs.KindLaws.{kind_room}
use Rattle.view.proofs.SkipLaws.{ending_whole, ending_inner, ending_atom, ending_name, ending_str}
use Rattle.view.proofs.skip_type.Goals as goal

pub extract-k-requires : goal.extract-k-requires
extract-k-requires c = (c.requires.0, omega arith, kind_room _ _ _ c.requires.1)

pub loop-p-init : goal.loop-p-init
loop-p-init c = (ending_whole _ _ _ c.requires.1, c.extract-k.ensures, c.prefix_of-p.ensures)

pub overflow_add-at : goal.overflow_add-at
overflow_add-at c =
    omega (
      arith,
      c.requires.0,
      (ending_inner _ _ _ _ c.loop-p.invariant.0 c.loop-p.invariant.1 c.loop-p.invariant.2
          c.loop-p-test.true).room,
    )

pub extract-k-requires-in-loop-p : goal.extract-k-requires-in-loop-p
extract-k-requires-in-loop-p c = (
  c.requires.0,
  omega arith,
  (ending_inner _ _ _ _ c.loop-p.invariant.0 c.loop-p.invariant.1 c.loop-p.invariant.2
      c.loop-p-test.true).room,
)

pub loop-p-smaller : goal.loop-p-smaller
loop-p-smaller c = omega (arith, c.loop-p.invariant.0.room)

pub loop-p-preserved : goal.loop-p-preserved
loop-p-preserved c = (
  ending_inner _ _ _ _ c.loop-p.invariant.0 c.loop-p.invariant.1 c.loop-p.invariant.2 c.loop-p-test.true,
  c.extract-k-in-loop-p.ensures,
  c.prefix_of-p-in-loop-p.ensures,
)

pub overflow_add-at-then-k-eq0 : goal.overflow_add-at-then-k-eq0
overflow_add-at-then-k-eq0 c = omega (arith, c.requires.0, c.loop-p.invariant.0.room)

pub returns-then-k-eq0 : goal.returns-then-k-eq0
returns-then-k-eq0 c =
    rw c.new.ensures (ending_atom _ _ _ _ c.loop-p.invariant.0 c.loop-p.invariant.1 c.if-k-eq0.true)

pub overflow_add-at-then-k-eq1 : goal.overflow_add-at-then-k-eq1
overflow_add-at-then-k-eq1 c = omega (arith, c.requires.0, c.loop-p.invariant.0.room)

pub overflow_add-at-then-k-eq1-2 : goal.overflow_add-at-then-k-eq1-2
overflow_add-at-then-k-eq1-2 c = omega (arith, c.requires.0, c.loop-p.invariant.0.room, width_le _ c.width.ensures)

pub returns-then-k-eq1 : goal.returns-then-k-eq1
returns-then-k-eq1 c =
    rw c.new-then-k-eq1.ensures (ending_name _ _ _ _ c.loop-p.invariant.0 c.loop-p.invariant.1 c.if-k-eq1.true
    c.width.ensures)

pub overflow_add-at-then-k-eq9 : goal.overflow_add-at-then-k-eq9
overflow_add-at-then-k-eq9 c = omega (arith, c.requires.0, c.loop-p.invariant.0.room)

pub returns-then-k-eq9 : goal.returns-then-k-eq9
returns-then-k-eq9 c =
    rw c.new-then-k-eq9.ensures (ending_str _ _ _ _ c.loop-p.invariant.0 c.loop-p.invariant.1 c.if-k-eq9.true)
