use mathlib.Core.Path.{◌≡◌}
use mathlib.Core.Bool.{false}
use lib.ListN.{take}
use Rattle.rules.specs.Rules.{any}
use Rattle.view.specs.Values.{items_at, item_no}
use Rattle.nested.specs.Groups.{belongs}
use Rattle.nested.proofs.is_first.Given as goal

abbrev pub invariant-loop-k : goal.invariant-loop-k
invariant-loop-k l =
    any (belongs (item_no l.s l.names l.items l.v.number) l.depth) (take l.k (items_at l.s
    l.names l.items)) ≡ false
