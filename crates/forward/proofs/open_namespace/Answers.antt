use Rattle.sink.proofs.SinkLaws.{◌▷◌, wrote_as}
use Rattle.forward.proofs.open_namespace.Goals as goal

pub returns : goal.returns
returns c =
    c.indent-begin.ensures ▷ c.put_bytes-word.ensures ▷ wrote_as c.put_name_of-brace.ensures
    c.namespace-name.ensures.1 ▷ c.put_bytes.ensures
