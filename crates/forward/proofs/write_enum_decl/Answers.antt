use Rattle.sink.proofs.SinkLaws.{◌▷◌, wrote_as}
use Rattle.forward.proofs.LineLaws.{enum_line_lem}
use Rattle.forward.proofs.write_enum_decl.Goals as goal

pub returns : goal.returns
returns c =
    wrote_as (c.put_bytes-name.ensures ▷ wrote_as c.put_name_of-colon.ensures c.requires.1.view.cxx ▷
    c.put_bytes-atom.ensures ▷ c.write_atom-end.ensures ▷ c.put_bytes.ensures) (enum_line_lem _
    c.enum_of-e.ensures)
