use Rattle.std.proofs.Common.{◌+◌, ◌*◌, length}
use Rattle.sink.specs.Sink.{sink}
use Rattle.write_type.proofs.ListLaws.{Going}
use Rattle.tables.specs.Tables.{items_in, items_of}
use Rattle.write_type.proofs.+write_type_write_type_space.Given as goal

abbrev pub decreases-write_type : goal.decreases-write_type
decreases-write_type l = 2 * l.levels

abbrev pub decreases-write_type_space : goal.decreases-write_type_space
decreases-write_type_space l = 2 * l.levels + 1

abbrev pub invariant-write_type-loop-i : goal.invariant-write_type-loop-i
invariant-write_type-loop-i l =
    Going (items_of l.s l.t) (length (items_in l.t)) l.inner l.s l.count l.initial.next.at l.i l.next.at
    (sink l.initial.out l.initial.here) (sink l.out l.here)
