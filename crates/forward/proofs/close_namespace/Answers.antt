use Rattle.sink.proofs.SinkLaws.{◌▷◌}
use Rattle.forward.proofs.close_namespace.Goals as goal

pub returns : goal.returns
returns c = c.indent-begin.ensures ▷ c.put_bytes.ensures
