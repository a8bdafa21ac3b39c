use native.Mathlib.Omega.{arith}
use mathlib.Core.Path.{refl}
use Rattle.tables.proofs.MetLaws.{known}
use Rattle.tables.proofs.known_type.Goals as goal

pub overflow_mul-size : goal.overflow_mul-size
overflow_mul-size c = omega (arith, c.requires.whole.named.limited)

pub returns-then-size-end : goal.returns-then-size-end
returns-then-size-end c = λ none. absurd (none refl)

pub extract-bits-requires : goal.extract-bits-requires
extract-bits-requires c = (c.requires.whole.named.limited, omega arith, omega arith)

pub bounds-t-k : goal.bounds-t-k
bounds-t-k c = omega (arith, c.requires.long, c.row_of-k.ensures)

pub bounds-t-k-2 : goal.bounds-t-k-2
bounds-t-k-2 c = omega (arith, c.requires.long, c.row_of-k.ensures)

pub returns-then-bits-word : goal.returns-then-bits-word
returns-then-bits-word c =
    λ some. known (c.requires.met _ c.row_of-k.ensures some) c.extract-bits.ensures (omega arith) c.if-bits-word.true

pub returns : goal.returns
returns c = λ none. absurd (none refl)
