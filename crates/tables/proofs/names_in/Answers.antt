use Rattle.tables.proofs.TableLaws.{names_part}
use Rattle.tables.proofs.names_in.Goals as goal

pub returns : goal.returns
returns c = names_part c.args.t.now
