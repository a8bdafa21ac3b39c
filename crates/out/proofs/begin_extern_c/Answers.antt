use Rattle.out.proofs.StateLaws.{begin_extern_c_room, begins_extern_c}
use Rattle.out.proofs.begin_extern_c.Goals as goal

pub push_block_boundary-requires : goal.push_block_boundary-requires
push_block_boundary-requires c =
    (c.requires.0, c.requires.1, c.requires.2.there.stands.listed, tt, begin_extern_c_room c.requires.2)

pub returns : goal.returns
returns c = begins_extern_c c.push_block_boundary.ensures
