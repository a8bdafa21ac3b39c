use Rattle.sink.proofs.put_byte.Goals as goal

pub returns : goal.returns
returns c = c.put_bytes.ensures
