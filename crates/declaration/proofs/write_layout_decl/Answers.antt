use Rattle.bridge.specs.Write.{layout_decl}
use Rattle.sink.proofs.SinkLaws.{◌▷◌}
use Rattle.declaration.proofs.write_layout_decl.Goals as goal

pub returns : goal.returns
unfolding layout_decl
returns c = c.put_bytes-typed.ensures ▷ c.write_operator-named.ensures ▷ c.put_bytes.ensures
