use native.Mathlib.Omega.{arith}
use Rattle.mangle.proofs.FullLaws.{item_left}
use Rattle.intern.proofs.intern_types.Goals as goal

pub item-v-requires : goal.item-v-requires
item-v-requires c =
    (c.loop-i.invariant.1.lent.tabled, item_left c.loop-i.invariant.1 c.requires.0.tabled (omega arith))
