use Rattle.bridge.specs.Write.{layout_definition}
use Rattle.sink.proofs.SinkLaws.{◌▷◌}
use Rattle.declaration.proofs.write_layout_definition.Goals as goal

pub write_operator-called-requires : goal.write_operator-called-requires
write_operator-called-requires c = (c.requires.0, c.requires.1)

pub returns : goal.returns
unfolding layout_definition
returns c =
    c.put_bytes-typed.ensures ▷ c.write_cxx_name-of.ensures ▷ c.put_bytes-inside.ensures ▷ c.put_bytes-named.ensures ▷
    c.put_bytes-begun.ensures ▷ c.put_bytes-returned.ensures ▷ c.write_operator-called.ensures ▷
    c.put_bytes-ended.ensures ▷ c.put_bytes.ensures
