use native.Mathlib.Omega.{arith}
use Rattle.view.proofs.ItemLaws.{head_room, depth_there}
use Rattle.view.proofs.depth_at.Goals as goal

pub overflow_add-at : goal.overflow_add-at
overflow_add-at c = omega (arith, c.requires.0.named.limited, head_room c.requires.0 c.requires.1)

pub extract-requires : goal.extract-requires
extract-requires c = (c.requires.0.named.limited, omega arith, omega (arith, head_room c.requires.0 c.requires.1))

pub returns : goal.returns
returns c = depth_there c.requires.0 c.requires.1 c.extract.ensures
