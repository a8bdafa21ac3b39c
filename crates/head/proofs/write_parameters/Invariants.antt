use mathlib.Core.List.{◌++◌}
use mathlib.Core.Bool.{false}
use Rattle.bridge.specs.WriteType.{write_type_space}
use Rattle.sink.specs.Sink.{sink}
use Rattle.shape.proofs.CommaLaws.{Listed}
use Rattle.tables.specs.Tables.{items_of, function_of}
use Rattle.head.proofs.write_parameters.Given as goal

abbrev pub invariant-loop-j : goal.invariant-loop-j
invariant-loop-j l =
    Listed (λ a. write_type_space (items_of l.s l.t) a.type ++ a.name) false (function_of l.s
    l.t l.f.number).arguments l.j l.comma (sink l.initial.out l.initial.here) (sink l.out l.here)
