use Rattle.judge.proofs.MarkedLaws.{repeated_marked}
use Rattle.judge.proofs.repeated_name.Goals as goal

pub returns : goal.returns
returns c = repeated_marked c.requires.1
