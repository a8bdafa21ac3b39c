use Rattle.sink.proofs.SinkLaws.{wrote_as, wrote_nil}
use Rattle.write_chain.specs.Chains.{end_of}
use Rattle.write_chain.proofs.InnerLaws.{end_rest}
use Rattle.write_chain.proofs.put_end.Goals as goal

pub returns-in-1 : goal.returns-in-1
unfolding end_of
returns-in-1 c = rw c.in-1.is c.put_bytes.ensures

pub returns-in-2 : goal.returns-in-2
unfolding end_of
returns-in-2 c = rw c.in-2.is c.put_bytes-in-2.ensures

pub returns-in-3 : goal.returns-in-3
unfolding end_of
returns-in-3 c = rw c.in-3.is c.put_bytes-in-3.ensures

pub returns-in-4 : goal.returns-in-4
unfolding end_of
returns-in-4 c = rw c.in-4.is c.put_bytes-in-4.ensures

pub returns-in-5 : goal.returns-in-5
unfolding end_of
returns-in-5 c = rw c.in-5.is c.put_bytes-in-5.ensures

pub returns-in-6 : goal.returns-in-6
unfolding end_of
returns-in-6 c = rw c.in-6.is c.put_bytes-in-6.ensures

pub returns-in-7 : goal.returns-in-7
unfolding end_of
returns-in-7 c = rw c.in-7.is c.put_bytes-in-7.ensures

pub returns-in-8 : goal.returns-in-8
unfolding end_of
returns-in-8 c = rw c.in-8.is c.put_bytes-in-8.ensures

pub returns-in-9 : goal.returns-in-9
unfolding end_of
returns-in-9 c = rw c.in-9.is c.put_bytes-in-9.ensures

pub returns-in-10 : goal.returns-in-10
unfolding end_of
returns-in-10 c = rw c.in-10.is c.put_bytes-in-10.ensures

pub returns-in-11 : goal.returns-in-11
unfolding end_of
returns-in-11 c = rw c.in-11.is c.put_bytes-in-11.ensures

pub returns-in-12 : goal.returns-in-12
unfolding end_of
returns-in-12 c = rw c.in-12.is c.put_bytes-in-12.ensures

pub returns-in-13 : goal.returns-in-13
unfolding end_of
returns-in-13 c = rw c.in-13.is c.put_bytes-in-13.ensures

pub returns-in-14 : goal.returns-in-14
unfolding end_of
returns-in-14 c = rw c.in-14.is c.put_bytes-in-14.ensures

pub returns-in_default : goal.returns-in_default
returns-in_default c = wrote_as (wrote_nil _) (end_rest _ c.in_default.in_default-own.rest)
