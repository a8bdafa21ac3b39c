use native.Mathlib.Omega.{arith}
use mathlib.Core.Path.{refl}
use Rattle.format.specs.Decoding.{part_of}
use Rattle.items.proofs.ItemLaws.{part_past}
use Rattle.items.proofs.part_of.Goals as goal

pub returns-in-0 : goal.returns-in-0
unfolding part_of
returns-in-0 c = rw c.in-0.is refl

pub returns-in-1 : goal.returns-in-1
unfolding part_of
returns-in-1 c = rw c.in-1.is refl

pub returns-in-2 : goal.returns-in-2
unfolding part_of
returns-in-2 c = rw c.in-2.is refl

pub returns-in-3 : goal.returns-in-3
unfolding part_of
returns-in-3 c = rw c.in-3.is refl

pub returns-in-4 : goal.returns-in-4
unfolding part_of
returns-in-4 c = rw c.in-4.is refl

pub returns-in_default : goal.returns-in_default
returns-in_default c = part_past _ (omega arith)
