use mathlib.Core.Path.{refl, ap}
use lib.ListN.{length}
use Rattle.format.specs.Decoding.{kind_of}
use Rattle.view.proofs.SkipLaws.{prefix_none}
use Rattle.write_chain.proofs.InnerLaws.{begin_rest}
use Rattle.count_type.proofs.begin_length.Goals as goal

pub returns-in-2 : goal.returns-in-2
unfolding kind_of
returns-in-2 c = rw c.in-2.is refl

pub returns-in-3 : goal.returns-in-3
unfolding kind_of
returns-in-3 c = rw c.in-3.is refl

pub returns-in-4 : goal.returns-in-4
unfolding kind_of
returns-in-4 c = rw c.in-4.is refl

pub returns-in-5 : goal.returns-in-5
unfolding kind_of
returns-in-5 c = rw c.in-5.is refl

pub returns-in-6 : goal.returns-in-6
unfolding kind_of
returns-in-6 c = rw c.in-6.is refl

pub returns-in-7 : goal.returns-in-7
unfolding kind_of
returns-in-7 c = rw c.in-7.is refl

pub returns-in-8 : goal.returns-in-8
unfolding kind_of
returns-in-8 c = rw c.in-8.is refl

pub returns-in-10 : goal.returns-in-10
unfolding kind_of
returns-in-10 c = rw c.in-10.is refl

pub returns-in-13 : goal.returns-in-13
unfolding kind_of
returns-in-13 c = rw c.in-13.is refl

pub returns-in_default : goal.returns-in_default
returns-in_default c = ap length (begin_rest (kind_of _) (prefix_none _ c.in_default.in_default-own.rest))
