use Rattle.out.specs.State.{namespace_at, content_of}
use Rattle.out.proofs.StateLaws.{Beginning}
use Rattle.out.proofs.begin_namespaces.Given as goal

abbrev pub invariant-loop-d : goal.invariant-loop-d
invariant-loop-d l =
    Beginning l.s l.names (namespace_at l.s l.names l.spaces l.depth) (content_of l.initial.c) (content_of l.c) l.d
