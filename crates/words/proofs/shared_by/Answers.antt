use Rattle.words.proofs.TableLaws.{shared_is}
use Rattle.words.proofs.shared_by.Goals as goal

pub returns : goal.returns
returns c = shared_is c.requires.0 _ c.requires.1 c.requires.2
