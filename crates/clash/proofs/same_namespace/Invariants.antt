use mathlib.Core.Path.{◌≡◌}
use lib.ListN.{drop}
use Rattle.clash.specs.Clashes.{same_names}
use Rattle.view.specs.Values.{item_no}
use Rattle.clash.proofs.same_namespace.Given as goal

abbrev pub invariant-loop-d : goal.invariant-loop-d
invariant-loop-d l =
    same_names (item_no l.s l.names l.items l.v.number).namespace (item_no l.s l.names l.items
    l.w.number).namespace ≡ same_names (drop l.d (item_no l.s l.names l.items l.v.number).namespace)
    (drop l.d (item_no l.s l.names l.items l.w.number).namespace)
