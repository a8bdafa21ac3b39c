use Rattle.out.proofs.StateLaws.{end_extern_c_room, ends_extern_c}
use Rattle.out.proofs.end_extern_c.Goals as goal

pub push_block_boundary-requires : goal.push_block_boundary-requires
push_block_boundary-requires c =
    (c.requires.0, c.requires.1, c.requires.2.there.stands.listed, tt, end_extern_c_room c.requires.2)

pub returns : goal.returns
returns c = ends_extern_c c.push_block_boundary.ensures
