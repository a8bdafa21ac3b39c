use Rattle.sink.specs.Sink.{sink, Wrote}
use Rattle.forward.specs.Entries.{direct_before}
use Rattle.tables.specs.Tables.{items_of, item_of}
use Rattle.forward.proofs.write_direct.Given as goal

abbrev pub invariant-loop-i : goal.invariant-loop-i
invariant-loop-i l =
    Wrote (sink l.initial.out l.initial.here) (direct_before (items_of l.s l.t)
    (item_of l.s l.t l.leader.number) l.depth l.i) (sink l.out l.here)
