use native.Mathlib.Omega.{arith}
use Rattle.sink.proofs.SinkLaws.{wrote_as}
use Rattle.tables.proofs.PoolLaws.{part_is}
use Rattle.tables.proofs.put_part.Goals as goal

pub returns : goal.returns
returns c = wrote_as c.put_text.ensures (part_is c.args.start c.args.count c.args.pool.now (omega arith))
