use Rattle.sink.proofs.SinkLaws.{wrote_nil, first_text, second_text}
use Rattle.call.proofs.CallLaws.{slot_return_written}
use Rattle.call.proofs.put_slot_return.Goals as goal

pub shape-requires : goal.shape-requires
shape-requires c = (c.requires.0, c.requires.1 c.if-indirect.true)

pub returns-then-indirect : goal.returns-then-indirect
returns-then-indirect c =
    first_text _ c.if-indirect.true (slot_return_written c.shape.ensures c.is_ref-reference.ensures
    c.put_bytes-a.ensures c.put_slot_value-b.ensures c.put_bytes.ensures)

pub returns : goal.returns
returns c = second_text _ c.if-indirect.false (wrote_nil _)
