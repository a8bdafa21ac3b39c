use Rattle.format.specs.Decoding.{atom_of}
use Rattle.sink.proofs.SinkLaws.{wrote_as}
use Rattle.write_atom.proofs.TextLaws.{atom_past, apart, apart_none}
use Rattle.write_atom.proofs.write_atom.Goals as goal

pub returns-in-1 : goal.returns-in-1
unfolding atom_of
returns-in-1 c = rw c.in-1.is c.put_bytes.ensures

pub returns-in-2 : goal.returns-in-2
unfolding atom_of
returns-in-2 c = rw c.in-2.is c.put_bytes-in-2.ensures

pub returns-in-3 : goal.returns-in-3
unfolding atom_of
returns-in-3 c = rw c.in-3.is c.put_bytes-in-3.ensures

pub returns-in-4 : goal.returns-in-4
unfolding atom_of
returns-in-4 c = rw c.in-4.is c.put_bytes-in-4.ensures

pub returns-in-5 : goal.returns-in-5
unfolding atom_of
returns-in-5 c = rw c.in-5.is c.put_bytes-in-5.ensures

pub returns-in-6 : goal.returns-in-6
unfolding atom_of
returns-in-6 c = rw c.in-6.is c.put_bytes-in-6.ensures

pub returns-in-7 : goal.returns-in-7
unfolding atom_of
returns-in-7 c = rw c.in-7.is c.put_bytes-in-7.ensures

pub returns-in-8 : goal.returns-in-8
unfolding atom_of
returns-in-8 c = rw c.in-8.is c.put_bytes-in-8.ensures

pub returns-in-9 : goal.returns-in-9
unfolding atom_of
returns-in-9 c = rw c.in-9.is c.put_bytes-in-9.ensures

pub returns-in-10 : goal.returns-in-10
unfolding atom_of
returns-in-10 c = rw c.in-10.is c.put_bytes-in-10.ensures

pub returns-in-11 : goal.returns-in-11
unfolding atom_of
returns-in-11 c = rw c.in-11.is c.put_bytes-in-11.ensures

pub returns-in-12 : goal.returns-in-12
unfolding atom_of
returns-in-12 c = rw c.in-12.is c.put_bytes-in-12.ensures

pub returns-in-13 : goal.returns-in-13
unfolding atom_of
returns-in-13 c = rw c.in-13.is c.put_bytes-in-13.ensures

pub returns-in-14 : goal.returns-in-14
unfolding atom_of
returns-in-14 c = rw c.in-14.is c.put_bytes-in-14.ensures

pub returns-in-15 : goal.returns-in-15
unfolding atom_of
returns-in-15 c = rw c.in-15.is c.put_bytes-in-15.ensures

pub returns-in_default : goal.returns-in_default
returns-in_default c =
    let r = c.in_default.in_default-own.rest in wrote_as c.put_bytes-in_default.ensures (atom_past _
    (apart 15 (apart 14 (apart 13
    (apart 12 (apart 11 (apart 10
    (apart 9 (apart 8 (apart 7
    (apart 6 (apart 5 (apart 4 (apart 3 (apart 2 (apart 1 (apart_none _) r.0.0.0.0.0.0.0.0.0.0.0.0.0.0.1)
    r.0.0.0.0.0.0.0.0.0.0.0.0.0.1) r.0.0.0.0.0.0.0.0.0.0.0.0.1) r.0.0.0.0.0.0.0.0.0.0.0.1)
    r.0.0.0.0.0.0.0.0.0.0.1) r.0.0.0.0.0.0.0.0.0.1) r.0.0.0.0.0.0.0.0.1) r.0.0.0.0.0.0.0.1) r.0.0.0.0.0.0.1)
    r.0.0.0.0.0.1) r.0.0.0.0.1) r.0.0.0.1) r.0.0.1) r.0.1) r.1))
