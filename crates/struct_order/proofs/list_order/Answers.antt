use native.Mathlib.Omega.{arith}
use mathlib.Core.Path.{sym}
use lib.Seq.{length-take-le}
use Rattle.struct_order.proofs.ListLaws.{list_ring, list_inside, list_long, list_fits}
use Rattle.struct_order.proofs.list_order.Goals as goal

pub returns-then-buf-end : goal.returns-then-buf-end
returns-then-buf-end c = list_long c.order_of.ensures _ c.in-Ok.is c.if-buf-end.true

pub slice_bounds-out-end : goal.slice_bounds-out-end
slice_bounds-out-end c = list_inside c.order_of.ensures c.in-Ok.is

pub slice_bounds-put_bytes-end : goal.slice_bounds-put_bytes-end
slice_bounds-put_bytes-end c = sym (length-take-le _ _ (list_inside c.order_of.ensures c.in-Ok.is))

pub returns-in_default : goal.returns-in_default
returns-in_default c = list_ring c.order_of.ensures _ c.in_default.is

pub returns : goal.returns
returns c =
    list_fits c.order_of.ensures _ c.in-Ok.is c.if-buf-end.false (omega arith) c.put_bytes.ensures
