use Rattle.sink.proofs.SinkLaws.{◌▷◌, wrote_nil, first_text, second_text}
use Rattle.call.proofs.write_return.Goals as goal

pub write_call_begin-requires : goal.write_call_begin-requires
write_call_begin-requires c = (c.requires.0, c.requires.1 c.if-direct.true)

pub returns-then-direct : goal.returns-then-direct
returns-then-direct c = first_text _ c.if-direct.true (c.put_bytes-behind.ensures ▷ c.write_call_begin.ensures)

pub returns : goal.returns
returns c = second_text _ c.if-direct.false (wrote_nil _)
