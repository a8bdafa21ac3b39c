use Rattle.sink.proofs.SinkLaws.{◌▷◌}
use Rattle.write_atom.proofs.put_pointer_end.Goals as goal

pub returns-in-Ref : goal.returns-in-Ref
returns-in-Ref c = rw c.in-Ref.is (c.put_unless-sign.ensures ▷ c.put_byte.ensures)

pub returns-in-Ptr : goal.returns-in-Ptr
returns-in-Ptr c = rw c.in-Ptr.is (c.put_unless-sign-in-Ptr.ensures ▷ c.put_byte-in-Ptr.ensures)

pub returns-in-SliceRef : goal.returns-in-SliceRef
returns-in-SliceRef c = rw c.in-SliceRef.is (c.put_unless-sign-in-SliceRef.ensures ▷ c.put_byte-in-SliceRef.ensures)
