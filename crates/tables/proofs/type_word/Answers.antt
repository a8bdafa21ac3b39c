use native.Mathlib.Omega.{arith}
use mathlib.Core.Path.{refl}
use Rattle.tables.proofs.PoolLaws.{type_part}
use Rattle.tables.proofs.type_word.Goals as goal

pub returns-then-t-k : goal.returns-then-t-k
returns-then-t-k c = λ some. type_part c.requires _ (omega arith) c.if-t-k.true some

pub returns : goal.returns
returns c = λ none. absurd (none refl)
