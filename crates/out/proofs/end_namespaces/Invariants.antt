use Rattle.out.specs.State.{content_of}
use Rattle.out.proofs.StateLaws.{Ending}
use Rattle.out.proofs.end_namespaces.Given as goal

abbrev pub invariant-loop-d : goal.invariant-loop-d
invariant-loop-d l = Ending l.s l.names (content_of l.initial.c) (content_of l.c) l.d
