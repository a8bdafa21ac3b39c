use Rattle.std.proofs.Common.{refl}
use Rattle.format.specs.Decoding.{kind_of}
use Rattle.write_chain.proofs.InnerLaws.{base_rest}
use Rattle.write_chain.proofs.base_of.Goals as goal

pub returns-in-7 : goal.returns-in-7
unfolding kind_of
returns-in-7 c = rw c.in-7.is refl

pub returns-in-8 : goal.returns-in-8
unfolding kind_of
returns-in-8 c = rw c.in-8.is refl

pub returns-in-13 : goal.returns-in-13
unfolding kind_of
returns-in-13 c = rw c.in-13.is refl

pub returns-in_default : goal.returns-in_default
returns-in_default c =
    base_rest _ c.in_default.in_default-own.rest.0.0.1 c.in_default.in_default-own.rest.0.1
    c.in_default.in_default-own.rest.1
