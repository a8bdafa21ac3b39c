use Rattle.struct_order.proofs.ServeLaws.{orders_unruled, orders_listed}
use Rattle.struct_order.proofs.order_ruled.Goals as goal

pub judge_parts-requires : goal.judge_parts-requires
judge_parts-requires c = (c.requires.ready, c.requires.marked)

pub returns-in_err-judge_parts : goal.returns-in_err-judge_parts
returns-in_err-judge_parts c =
    orders_unruled _ c.requires _ c.judge_parts.ensures c.from_residual.ensures.1 c.in_err-judge_parts.was

pub returns : goal.returns
returns c = orders_listed _ c.requires _ c.judge_parts.ensures c.in_ok-judge_parts.was c.list_order.ensures
