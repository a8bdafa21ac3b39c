use Rattle.std.proofs.Common.{◌≡◌, length}
use Rattle.sink.specs.Sink.{sink}
use Rattle.format.specs.Bits.{bits_at}
use Rattle.format.specs.Decoding.{kind_of}
use Rattle.view.specs.Views.{prefix_of}
use Rattle.write_type.specs.TypeAt.{ty_at}
use Rattle.tables.specs.Tables.{items_in, items_of}
use Rattle.write_chain.specs.Chains.{write_type_as, Entering}
use Rattle.write_chain.proofs.enter.Given as goal

abbrev pub invariant-loop-prefix : goal.invariant-loop-prefix
invariant-loop-prefix l =
    Entering (length (items_in l.t)) l.s (items_of l.s l.t) (write_type_as l.spaced (items_of l.s l.t)
    (ty_at (length (items_in l.t)) l.levels l.s l.initial.p)) (sink l.initial.out l.at) (sink l.out l.here) l.p
    l.left l.stack × (l.k ≡ bits_at l.s l.p 4) × (l.prefix ≡ prefix_of (kind_of l.k))

abbrev pub decreases-loop-prefix : goal.decreases-loop-prefix
decreases-loop-prefix l = l.left
