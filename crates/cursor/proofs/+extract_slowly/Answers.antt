use native.Mathlib.Omega.{arith}
use Rattle.cursor.proofs.BitLaws.{bits_none, bits_more, bits_short, bits_all}
use Rattle.cursor.proofs.+extract_slowly.Goals as goal

pub returns-then-n-eq0 : goal.returns-then-n-eq0
returns-then-n-eq0 t c = bits_none _ _ _ c.if-n-eq0.true

pub overflow_mul-result : goal.overflow_mul-result
overflow_mul-result t c = omega (arith, bits_short _ _ _ c.extract_slowly-high.ensures (omega arith))

pub overflow_add-result : goal.overflow_add-result
overflow_add-result t c =
    omega (arith, c.bit_in.ensures.1, bits_short _ _ _ c.extract_slowly-high.ensures (omega arith))

pub returns : goal.returns
returns t c = bits_all _ _ (bits_more _ _ _ c.extract_slowly-high.ensures c.bit_in.ensures.0) (omega arith)
