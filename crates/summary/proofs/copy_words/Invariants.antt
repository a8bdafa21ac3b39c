use Rattle.sink.specs.Copying.{Copied}
use Rattle.summary.proofs.copy_words.Given as goal

abbrev pub invariant-loop-i : goal.invariant-loop-i
invariant-loop-i l = Copied l.from l.i l.to
