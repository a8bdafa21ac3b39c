use Rattle.sink.proofs.SinkLaws.{wrote_nil, first_text, second_text}
use Rattle.call.proofs.CallLaws.{end_written}
use Rattle.call.proofs.put_call_end.Goals as goal

pub shape-requires : goal.shape-requires
shape-requires c = (c.requires.0, c.requires.1 c.if-direct.true)

pub returns-then-direct : goal.returns-then-direct
returns-then-direct c =
    first_text _ c.if-direct.true (end_written c.shape.ensures c.is_closed-closed.ensures c.put_when.ensures)

pub returns : goal.returns
returns c = second_text _ c.if-direct.false (wrote_nil _)
