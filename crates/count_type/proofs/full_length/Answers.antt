use native.Mathlib.Omega.{arith}
use Rattle.count_type.proofs.CountLaws.{full_counts}
use Rattle.count_type.proofs.full_length.Goals as goal

pub returns : goal.returns
returns c = (omega arith, full_counts _ c.requires.0 c.requires.1)
