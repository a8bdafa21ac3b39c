use Rattle.mangle.proofs.NameLaws.{pushed}
use Rattle.mangle.proofs.symbol.push.Goals as goal

pub returns : goal.returns
returns c = pushed c.put_byte-here.ensures c.put_bytes.ensures
