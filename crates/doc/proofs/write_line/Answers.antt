use native.Mathlib.Omega.{arith}
use Rattle.sink.proofs.SinkLaws.{◌▷◌, wrote_as}
use Rattle.doc.proofs.DocLaws.{line_yields, line_is, line_next}
use Rattle.doc.proofs.write_line.Goals as goal

pub put_chars-b-requires : goal.put_chars-b-requires
put_chars-b-requires c = (omega arith, line_yields _ _ c.requires.1 c.field-length.ensures)

pub returns : goal.returns
returns c = (
  c.put_slashes-a.ensures ▷ wrote_as c.put_chars-b.ensures (line_is _ _ c.requires.1 c.field-length.ensures) ▷
      c.put_bytes-here.ensures,
  rw c.new-next.ensures (line_next _ _ c.requires.1 c.field-length.ensures),
)
