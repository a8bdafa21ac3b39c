use Rattle.sink.proofs.SinkLaws.{wrote_nil, first_text, second_text}
use Rattle.sink.proofs.put_when.Goals as goal

pub returns-then-yes : goal.returns-then-yes
returns-then-yes c = first_text _ c.if-yes.true c.put_bytes.ensures

pub returns : goal.returns
returns c = second_text _ c.if-yes.false (wrote_nil _)
