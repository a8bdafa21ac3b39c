use Rattle.sink.proofs.SinkLaws.{◌▷◌}
use Rattle.out.proofs.write_end.Goals as goal

pub returns : goal.returns
returns c = c.put_bytes-next.ensures ▷ c.write_common-end.ensures ▷ c.put_bytes.ensures
