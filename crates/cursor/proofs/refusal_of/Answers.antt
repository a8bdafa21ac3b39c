use Rattle.cursor.proofs.CodeLaws.{refusal_past, refusal_at}
use Rattle.cursor.proofs.refusal_of.Goals as goal

pub returns-then-n-gt13 : goal.returns-then-n-gt13
returns-then-n-gt13 c = refusal_past _ c.if-n-gt13.true

pub returns : goal.returns
returns c = refusal_at _ _ c.if-n-gt13.false
