use Rattle.mangle.proofs.NameLaws.{pushed}
use Rattle.mangle.proofs.symbol.push_name.Goals as goal

pub returns : goal.returns
returns c = pushed c.put_byte-here.ensures c.put_name_of.ensures
