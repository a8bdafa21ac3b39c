use Rattle.sink.proofs.SinkLaws.{◌▷◌}
use Rattle.out.proofs.write_begin.Goals as goal

pub returns : goal.returns
returns c = c.write_common-next.ensures ▷ c.put_bytes.ensures
