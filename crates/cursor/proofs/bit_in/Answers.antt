use mathlib.Core.Path.{refl}
use native.Mathlib.Omega.{arith}
use Rattle.format.specs.Bits.{bit_at}
use Rattle.cursor.proofs.bit_in.Goals as goal

pub returns : goal.returns
unfolding bit_at
returns c = (rw (← c.byte_in.ensures.0) refl, omega arith)
