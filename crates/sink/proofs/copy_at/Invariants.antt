use Rattle.sink.proofs.StoreLaws.{Stored}
use Rattle.sink.proofs.copy_at.Given as goal

abbrev pub invariant-loop-i : goal.invariant-loop-i
invariant-loop-i l = Stored l.initial.out l.at l.text l.i l.out
