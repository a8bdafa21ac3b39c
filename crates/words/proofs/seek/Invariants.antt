use Rattle.words.proofs.TableLaws.{Passed, Front}
use Rattle.words.proofs.seek.Given as goal

abbrev pub invariant-loop-w : goal.invariant-loop-w
invariant-loop-w l = Passed l.t l.word l.matched l.c l.w × Front l.t l.word l.matched l.c l.w
