use Rattle.sink.proofs.SinkLaws.{first_text, second_text}
use Rattle.shim.proofs.ShimLaws.{shim_written}
use Rattle.shim.proofs.write_function_shim.Goals as goal

pub write_shim_doc-a-requires : goal.write_shim_doc-a-requires
write_shim_doc-a-requires c = (c.requires.0, c.requires.2, c.requires.5)

pub write_shim_decl-b-requires : goal.write_shim_decl-b-requires
write_shim_decl-b-requires c = (c.requires.0, c.requires.1, c.requires.2, c.requires.3, c.requires.4)

pub write_shim_body-requires : goal.write_shim_body-requires
write_shim_body-requires c = (c.requires.0, c.requires.1, c.requires.2, c.requires.3, c.requires.4)

pub returns-then-header : goal.returns-then-header
returns-then-header c =
    shim_written _ _ _ c.write_shim_doc-a.ensures c.write_shim_decl-b.ensures (first_text _ c.if-header.true
    c.put_bytes.ensures)

pub returns : goal.returns
returns c =
    shim_written _ _ _ c.write_shim_doc-a.ensures c.write_shim_decl-b.ensures (second_text _ c.if-header.false
    c.write_shim_body.ensures)
