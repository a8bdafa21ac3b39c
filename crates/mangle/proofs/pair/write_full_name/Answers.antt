use Rattle.mangle.proofs.NameLaws.{full_name_lem}
use Rattle.mangle.proofs.pair.write_full_name.Goals as goal

pub returns : goal.returns
returns c =
    full_name_lem c.item-v.ensures.1 c.item-v.ensures.0 c.write_namespace-outer.ensures c.put_bytes-here.ensures
    c.put_name_of.ensures
