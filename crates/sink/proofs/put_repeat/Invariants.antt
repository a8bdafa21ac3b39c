use lib.ListN.{replicate}
use Rattle.sink.proofs.StoreLaws.{Stored}
use Rattle.sink.proofs.put_repeat.Given as goal

abbrev pub invariant-loop-i : goal.invariant-loop-i
invariant-loop-i l = Stored l.initial.out l.at (replicate l.count l.byte) l.i l.out
