use native.Mathlib.Omega.{arith}
use Rattle.order.proofs.OrderLaws.{ring_none}
use Rattle.order.proofs.ring.Goals as goal

pub returns-else-n-gt0 : goal.returns-else-n-gt0
returns-else-n-gt0 c = ring_none c.list_structs-n.ensures (omega arith)
