use native.Mathlib.Omega.{arith}
use Rattle.doc.proofs.DocLaws.{lines_yield, doc_written}
use Rattle.doc.proofs.write_doc.Goals as goal

pub write_lines-here-requires : goal.write_lines-here-requires
write_lines-here-requires c = (omega arith, lines_yield _ _ c.requires.1 c.field-count.ensures)

pub returns : goal.returns
returns c =
    doc_written _ _ c.requires.1 c.field-count.ensures _ c.write_lines-here.ensures c.is_alone-alone.ensures
    c.put_when.ensures
