use mathlib.Core.Path.{refl}
use Rattle.format.specs.Decoding.{kind_of}
use Rattle.view.proofs.TypeLaws.{owner_none}
use Rattle.view.proofs.owner_of.Goals as goal

pub returns-in-2 : goal.returns-in-2
unfolding kind_of
returns-in-2 c = rw c.in-2.is refl

pub returns-in-4 : goal.returns-in-4
unfolding kind_of
returns-in-4 c = rw c.in-4.is refl

pub returns-in_default : goal.returns-in_default
returns-in_default c = owner_none _ c.in_default.in_default-own.rest
