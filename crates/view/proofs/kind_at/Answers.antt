use native.Mathlib.Omega.{arith}
use Rattle.view.proofs.ItemLaws.{head_room, kind_there}
use Rattle.view.proofs.kind_at.Goals as goal

pub extract-requires : goal.extract-requires
extract-requires c = (c.requires.0.named.limited, omega arith, omega (arith, head_room c.requires.0 c.requires.1))

pub returns : goal.returns
returns c = kind_there c.requires.0 c.requires.1 c.extract.ensures c.part_of.ensures
