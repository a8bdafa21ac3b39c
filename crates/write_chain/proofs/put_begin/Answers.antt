use Rattle.sink.proofs.SinkLaws.{wrote_as, wrote_nil}
use Rattle.format.specs.Decoding.{kind_of}
use Rattle.view.proofs.SkipLaws.{prefix_none}
use Rattle.write_chain.proofs.InnerLaws.{begin_rest}
use Rattle.write_chain.proofs.put_begin.Goals as goal

pub returns-in-2 : goal.returns-in-2
unfolding kind_of
returns-in-2 c = rw c.in-2.is c.put_bytes.ensures

pub returns-in-3 : goal.returns-in-3
unfolding kind_of
returns-in-3 c = rw c.in-3.is c.put_bytes-in-3.ensures

pub returns-in-4 : goal.returns-in-4
unfolding kind_of
returns-in-4 c = rw c.in-4.is c.put_bytes-in-4.ensures

pub returns-in-5 : goal.returns-in-5
unfolding kind_of
returns-in-5 c = rw c.in-5.is c.put_bytes-in-5.ensures

pub returns-in-6 : goal.returns-in-6
unfolding kind_of
returns-in-6 c = rw c.in-6.is c.put_bytes-in-6.ensures

pub returns-in-7 : goal.returns-in-7
unfolding kind_of
returns-in-7 c = rw c.in-7.is (wrote_nil _)

pub returns-in-8 : goal.returns-in-8
unfolding kind_of
returns-in-8 c = rw c.in-8.is (wrote_nil _)

pub returns-in-10 : goal.returns-in-10
unfolding kind_of
returns-in-10 c = rw c.in-10.is c.put_bytes-in-10.ensures

pub returns-in-13 : goal.returns-in-13
unfolding kind_of
returns-in-13 c = rw c.in-13.is c.put_bytes-in-13.ensures

pub returns-in_default : goal.returns-in_default
returns-in_default c =
    wrote_as (wrote_nil _) (begin_rest (kind_of _) (prefix_none _ c.in_default.in_default-own.rest))
