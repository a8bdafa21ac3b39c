use native.Mathlib.Omega.{arith}
use mathlib.Core.Path.{sym}
use lib.Seq.{length-take-le}
use Rattle.struct_order.proofs.ServeLaws.{decodes}
use Rattle.struct_order.proofs.order_decoded.Goals as goal

pub slice_bounds-order_ruled-end : goal.slice_bounds-order_ruled-end
slice_bounds-order_ruled-end c = sym (length-take-le _ _ (omega (arith, c.requires.0.few)))

pub slice_bounds-order_ruled-end-2 : goal.slice_bounds-order_ruled-end-2
slice_bounds-order_ruled-end-2 c = sym (length-take-le _ _ (omega (arith, c.requires.0.items.few)))

pub slice_bounds-order_ruled-end-3 : goal.slice_bounds-order_ruled-end-3
slice_bounds-order_ruled-end-3 c = sym (length-take-le _ _ (omega (arith, c.requires.0.few)))

pub order_ruled-requires : goal.order_ruled-requires
order_ruled-requires c = decodes _ c.requires.0 c.requires.1 c.requires.2
