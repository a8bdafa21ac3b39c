use lib.ListN.{take}
use Rattle.syntax.specs.Items.{item_at}
use Rattle.sink.specs.Sink.{sink, Wrote}
use Rattle.mangle.specs.Segments.{each_between}
use Rattle.tables.specs.Tables.{items_of}
use Rattle.mangle.proofs.namespace.write_namespace.Given as goal

abbrev pub invariant-loop-d : goal.invariant-loop-d
invariant-loop-d l =
    Wrote (sink l.initial.out l.initial.here) (each_between l.before l.behind
    (take l.d (item_at (items_of l.s l.t) l.v.number).namespace)) (sink l.out l.here)
