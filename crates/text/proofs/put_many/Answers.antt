use native.Mathlib.Omega.{arith}
use mathlib.Core.Path.{refl}
use Rattle.text.proofs.CharLaws.{hold_none, hold_less}
use Rattle.text.proofs.put_many.Goals as goal
use Rattle.text.proofs.put_many.Goals.{else-loop-i-test, then-loop-i-test+else-last-i-gt8}

pub loop-i-init : goal.loop-i-init
loop-i-init c = (omega arith, refl, hold_none _ _ _)

pub put_eight-requires : goal.put_eight-requires
put_eight-requires c = record { limited = (omega arith, omega arith, omega arith); holds = c.loop-i.invariant.2 }

pub loop-i-preserved : goal.loop-i-preserved
loop-i-preserved c = (omega arith, omega (arith, c.put_eight.auto), c.put_eight.ensures)

pub put_eight-requires-2 : goal.put_eight-requires-2
put_eight-requires-2 c = record {
  limited = (omega arith, omega arith, omega (arith, c.loop-i-test.auto.buf));
  holds = elim c.loop-i-test.branch [
    | else-loop-i-test w ↦ rw w.buf-is (hold_less _ _ _ c.loop-i.invariant.2 (omega (arith, w.loop-i-test.false)))
    | then-loop-i-test+else-last-i-gt8 w ↦ rw w.buf-is (hold_less _ _ _ w.put_eight.ensures (omega arith))
  ];
}

pub returns : goal.returns
returns c = hold_less _ _ _ c.put_eight-2.ensures (omega arith)
