use Rattle.tables.proofs.TableLaws.{items_part}
use Rattle.tables.proofs.items_in.Goals as goal

pub returns : goal.returns
returns c = items_part c.args.t.now
