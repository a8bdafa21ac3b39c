use Rattle.sink.proofs.SinkLaws.{◌▷◌}
use Rattle.shape.proofs.write_pointer.Goals as goal

pub returns : goal.returns
returns c = c.write_spaced-end.ensures ▷ c.put_unless-behind.ensures ▷ c.put_bytes.ensures
