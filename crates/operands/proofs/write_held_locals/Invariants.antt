use Rattle.bridge.specs.Write.{held_local}
use Rattle.sink.specs.Sink.{sink}
use Rattle.shape.proofs.CommaLaws.{Gathered}
use Rattle.tables.specs.Tables.{items_of, function_of}
use Rattle.operands.proofs.write_held_locals.Given as goal

abbrev pub invariant-loop-j : goal.invariant-loop-j
invariant-loop-j l =
    Gathered (held_local (items_of l.s l.t)) (function_of l.s l.t l.f.number).arguments l.j
    (sink l.initial.out l.initial.here) (sink l.out l.here)
