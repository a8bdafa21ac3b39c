use native.Mathlib.Omega.{arith}
use Rattle.cursor.proofs.BitLaws.{bits_none, extract_is, shl_pos}
use Rattle.cursor.proofs.extract_wide.Goals as goal

pub returns-then-n-eq0 : goal.returns-then-n-eq0
returns-then-n-eq0 c = bits_none _ _ _ c.if-n-eq0.true

pub nonzero_rem-result : goal.nonzero_rem-result
nonzero_rem-result c = shl_pos _ c.requires.1

pub returns : goal.returns
returns c =
    extract_is _ _ _ _ _ c.requires.1 c.word-w.ensures (omega (arith, c.word_start-b.ensures))
    (omega (arith, c.word_start-b.ensures))
