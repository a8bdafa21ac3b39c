use Rattle.mangle.proofs.NameLaws.{cxx_name_lem}
use Rattle.mangle.proofs.pair.write_cxx_name.Goals as goal

pub put_name_of-requires : goal.put_name_of-requires
put_name_of-requires c = (c.requires.0, c.item-v.ensures.1.view.named)

pub returns : goal.returns
returns c = cxx_name_lem c.item-v.ensures.1 c.item-v.ensures.0 c.put_name_of.ensures
