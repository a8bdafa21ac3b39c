use Rattle.sink.proofs.SinkLaws.{first_text, second_text}
use Rattle.call.proofs.put_slot_value.Goals as goal

pub returns-then-reference : goal.returns-then-reference
returns-then-reference c = first_text _ c.if-reference.true c.put_bytes.ensures

pub returns : goal.returns
returns c = second_text _ c.if-reference.false c.put_bytes-2.ensures
