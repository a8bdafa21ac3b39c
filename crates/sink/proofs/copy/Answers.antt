use native.Mathlib.Omega.{arith}
use Rattle.sink.proofs.CopyLaws.{copied_less}
use Rattle.sink.proofs.copy.Goals.{else-loop-i-test, then-loop-i-test+else-last-i-gt8}
use Rattle.sink.proofs.copy.Goals as goal

pub loop-i-preserved : goal.loop-i-preserved
loop-i-preserved c = (omega arith, c.copy_eight-in-loop-i.ensures)

pub copy_eight-requires-2 : goal.copy_eight-requires-2
copy_eight-requires-2 c = (
  omega arith,
  elim c.loop-i-test.branch [
    | else-loop-i-test w ↦ rw w.buf-is (copied_less _ c.loop-i.invariant.1 (omega arith))
    | then-loop-i-test+else-last-i-gt8 w ↦ rw w.buf-is (copied_less _ w.copy_eight-in-loop-i.ensures (omega arith))
  ],
)
