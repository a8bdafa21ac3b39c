use Rattle.sink.specs.Copying.{Copied}
use Rattle.sink.proofs.copy_plain.Given as goal

abbrev pub invariant-loop-i : goal.invariant-loop-i
invariant-loop-i l = Copied l.text l.i l.buf
