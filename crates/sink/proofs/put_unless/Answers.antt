use Rattle.sink.proofs.SinkLaws.{wrote_nil, first_text, second_text}
use Rattle.sink.proofs.put_unless.Goals as goal

pub returns-then-no : goal.returns-then-no
returns-then-no c = first_text _ c.if-no.true (wrote_nil _)

pub returns : goal.returns
returns c = second_text _ c.if-no.false c.put_bytes.ensures
