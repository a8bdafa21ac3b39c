use Rattle.head.proofs.HeadLaws.{head_written}
use Rattle.head.proofs.write_shim_decl.Goals as goal

pub write_shim_type-a-requires : goal.write_shim_type-a-requires
write_shim_type-a-requires c = (c.requires.0, c.requires.1, c.requires.2)

pub write_local_name-b-requires : goal.write_local_name-b-requires
write_local_name-b-requires c = (c.requires.0, c.requires.1, c.requires.2)

pub write_parameters-d-requires : goal.write_parameters-d-requires
write_parameters-d-requires c = (c.requires.0, c.requires.4)

pub returns : goal.returns
returns c =
    head_written _ c.requires.2 c.write_shim_type-a.ensures c.write_local_name-b.ensures c.put_bytes-c.ensures
    c.write_parameters-d.ensures c.put_bytes-e.ensures c.is_const.ensures c.put_when-g.ensures c.put_unless.ensures
