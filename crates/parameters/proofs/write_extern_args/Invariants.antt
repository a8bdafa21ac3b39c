use Rattle.bridge.specs.Write.{extern_arg}
use Rattle.sink.specs.Sink.{sink}
use Rattle.shape.proofs.CommaLaws.{Listed}
use Rattle.tables.specs.Tables.{items_of, function_of}
use Rattle.parameters.proofs.write_extern_args.Given as goal

abbrev pub invariant-loop-j : goal.invariant-loop-j
invariant-loop-j l =
    Listed (extern_arg (items_of l.s l.t)) l.before (function_of l.s l.t l.f.number).arguments
    l.j l.comma (sink l.initial.out l.at) (sink l.out l.here)
