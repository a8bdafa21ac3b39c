use Rattle.mangle.proofs.NameLaws.{begun}
use Rattle.mangle.proofs.mangle.write_version.Goals as goal

pub returns : goal.returns
returns c = begun c.requires.1 c.write_namespace-here.ensures c.put_bytes.ensures
