use Rattle.sink.proofs.SinkLaws.{◌▷◌, wrote_as}
use Rattle.forward.proofs.write_struct_using.Goals as goal

pub returns : goal.returns
returns c =
    c.put_bytes-name.ensures ▷ wrote_as c.put_name_of-equals.ensures c.requires.1.view.cxx ▷ c.put_bytes-full.ensures
    ▷ c.write_full_name-end.ensures ▷ c.put_bytes.ensures
