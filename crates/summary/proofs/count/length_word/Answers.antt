use Rattle.std.proofs.Common.{arith}
use Rattle.summary.proofs.LengthLaws.{word_none, word_some}
use Rattle.summary.proofs.count.length_word.Goals as goal

pub returns-then-place-gt4294967295 : goal.returns-then-place-gt4294967295
returns-then-place-gt4294967295 c = word_none _

pub returns : goal.returns
returns c = word_some c.requires (omega arith)
