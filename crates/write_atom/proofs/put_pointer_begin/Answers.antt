use Rattle.sink.proofs.SinkLaws.{wrote_as}
use Rattle.write_atom.proofs.TextLaws.{begin_is}
use Rattle.write_atom.proofs.put_pointer_begin.Goals as goal

pub returns : goal.returns
returns c = wrote_as c.put_when.ensures (rw c.is_slice-slice.ensures (begin_is c.args.k))
