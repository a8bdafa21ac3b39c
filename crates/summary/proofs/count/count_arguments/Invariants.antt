use Rattle.std.proofs.Common.{false, [], ◌++◌}
use Rattle.bridge.specs.WriteType.{write_type_space}
use Rattle.bridge.specs.Write.{extern_arg, held_local, operand}
use Rattle.sink.specs.Sink.{sink}
use Rattle.shape.proofs.CommaLaws.{Listed, Gathered}
use Rattle.tables.specs.Tables.{items_of, function_of}
use Rattle.summary.proofs.count.count_arguments.Given as goal

abbrev pub invariant-loop-j : goal.invariant-loop-j
invariant-loop-j l =
    Listed (extern_arg (items_of l.s l.t)) false (function_of l.s l.t l.f.number).arguments
    l.j l.comma (sink [] 1) (sink [] l.p.exts) × Listed (λ a. write_type_space (items_of l.s l.t) a.type ++
    a.name) false (function_of l.s l.t l.f.number).arguments l.j l.comma (sink [] 1) (sink [] l.p.pars) × Gathered
    (held_local (items_of l.s l.t)) (function_of l.s l.t l.f.number).arguments l.j (sink [] 1)
    (sink [] l.p.locals) × Listed (operand (items_of l.s l.t)) false (function_of l.s l.t l.f.number).arguments
    l.j l.comma (sink [] 1) (sink [] l.p.operands)
