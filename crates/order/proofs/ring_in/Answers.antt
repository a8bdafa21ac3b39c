use mathlib.Core.Path.{◌∙◌}
use Rattle.order.proofs.ring_in.Goals as goal

pub returns : goal.returns
returns c = c.is_err.ensures.value ∙ c.order_of.ensures.rings
