use Rattle.declaration.proofs.ReturnLaws.{declared}
use Rattle.tables.specs.Tables.{names_in, items_in}
use Rattle.declaration.proofs.write_function_decl.Goals as goal

pub returns : goal.returns
returns c =
    declared c.args.s.now (names_in c.args.t.now) (items_in c.args.t.now) c.requires.3
    c.write_extern_return-returned.ensures c.write_extern_fn-named.ensures c.put_bytes-opened.ensures
    c.write_parameters-listed.ensures c.put_bytes.ensures
