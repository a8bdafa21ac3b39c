use Rattle.sink.proofs.SinkLaws.{◌▷◌, wrote_nil, first_text, second_text}
use Rattle.call.proofs.write_slot.Goals as goal

pub write_slot_type-b-requires : goal.write_slot_type-b-requires
write_slot_type-b-requires c = (c.requires.0, c.requires.1 c.if-indirect.true)

pub returns-then-indirect : goal.returns-then-indirect
returns-then-indirect c =
    first_text _ c.if-indirect.true (c.put_bytes-a.ensures ▷ c.write_slot_type-b.ensures ▷ c.put_bytes-d.ensures ▷
    c.put_bytes.ensures)

pub returns : goal.returns
returns c = second_text _ c.if-indirect.false (wrote_nil _)
