use Rattle.bridge.specs.Write.{operand}
use Rattle.sink.specs.Sink.{sink}
use Rattle.shape.proofs.CommaLaws.{Listed}
use Rattle.tables.specs.Tables.{items_of, function_of}
use Rattle.operands.proofs.write_arguments.Given as goal

abbrev pub invariant-loop-j : goal.invariant-loop-j
invariant-loop-j l =
    Listed (operand (items_of l.s l.t)) l.others (function_of l.s l.t l.f.number).arguments
    l.j l.comma (sink l.initial.out l.at) (sink l.out l.here)
