use Rattle.tables.specs.Tables.{names_in}
use Rattle.out.specs.State.{content_of}
use Rattle.out.proofs.FlushLaws.{Turned}
use Rattle.out.proofs.flush_all.Given as goal

abbrev pub invariant-loop-i : goal.invariant-loop-i
invariant-loop-i l = Turned l.s (names_in l.t) l.initial.out (content_of l.c) l.out l.at l.section l.i
