use mathlib.Core.Path.{◌≡◌}
use Prim.Native.Nat.{◌-◌, ◌*◌}
use lib.ListN.{length}
use Rattle.format.specs.Bits.{bits_at}
use Rattle.format.specs.Decoding.{kind_of}
use Rattle.view.specs.Views.{prefix_of}
use Rattle.write_type.specs.TypeAt.{ty_at}
use Rattle.tables.specs.Tables.{items_in, items_of}
use Rattle.write_chain.specs.Chains.{write_type_as}
use Rattle.count_type.proofs.CountLaws.{Counting}
use Rattle.count_type.proofs.count_type.Given as goal

abbrev pub invariant-loop-prefix : goal.invariant-loop-prefix
invariant-loop-prefix l =
    Counting (length (items_in l.t)) l.s (items_of l.s l.t) (write_type_as l.spaced (items_of l.s l.t)
    (ty_at (length (items_in l.t)) l.levels l.s l.initial.at)) l.at l.sum × (l.k ≡ bits_at l.s l.at 4) ×
    (l.prefix ≡ prefix_of (kind_of l.k))

abbrev pub decreases-loop-prefix : goal.decreases-loop-prefix
decreases-loop-prefix l = 8 * length l.s - l.at
