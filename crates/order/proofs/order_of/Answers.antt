use mathlib.Core.Path.{sym}
use lib.Seq.{length-take-le}
use Rattle.holds.proofs.EdgeLaws.{items_passed}
use Rattle.order.proofs.OrderLaws.{ordered, ordered_none}
use Rattle.order.proofs.order_of.Goals as goal

pub slice_bounds-sort-end : goal.slice_bounds-sort-end
slice_bounds-sort-end c = sym (length-take-le _ _ c.list_structs-n.ensures.inside)

pub returns-then-n-eq0 : goal.returns-then-n-eq0
returns-then-n-eq0 c = ordered_none c.list_structs-n.ensures c.if-n-eq0.true

pub returns : goal.returns
returns c = ordered (items_passed _ _ _ c.requires.0.few) c.fill_edges.ensures c.list_structs-n.ensures c.sort.ensures
