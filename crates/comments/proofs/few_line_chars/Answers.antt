use native.Mathlib.Omega.{arith}
use lib.Bits.{and_le_r}
use Rattle.lexical.proofs.LaneLaws.{lanes}
use Rattle.comments.proofs.LineLaws.{marks, few_lanes}
use Rattle.comments.proofs.few_line_chars.Goals as goal

pub overflow_add-good : goal.overflow_add-good
unfolding lanes
overflow_add-good c = record { fits = omega (arith, and_le_r c.extract_wide-x.result (lanes 8 63)) }

pub overflow_add-good-2 : goal.overflow_add-good-2
unfolding lanes
overflow_add-good-2 c = record { fits = omega (arith, and_le_r c.extract_wide-x.result (lanes 8 63)) }

pub returns : goal.returns
unfolding lanes marks
returns c = few_lanes _ _ _ c.extract_wide-x.ensures (omega arith)
