use Rattle.std.proofs.Common.{refl}
use Rattle.sink.proofs.SinkLaws.{◌▷◌, wrote_nil, first_text, second_text}
use Rattle.operands.proofs.OperandLaws.{operands_written}
use Rattle.operands.proofs.write_operands.Goals as goal

pub write_arguments-listed-requires : goal.write_arguments-listed-requires
write_arguments-listed-requires c = (c.requires.0, c.requires.2)

pub returns-then-indirect : goal.returns-then-indirect
returns-then-indirect c =
    operands_written c.requires.1 c.requires.2.arguments c.requires.3 c.is_method-method.ensures
    c.put_when-received.ensures c.write_arguments-listed.ensures c.needs_comma-comma.ensures (first_text _
    c.if-indirect.true (c.put_when-behind.ensures ▷ c.put_bytes.ensures))

pub returns : goal.returns
returns c =
    operands_written c.requires.1 c.requires.2.arguments c.requires.3 c.is_method-method.ensures
    c.put_when-received.ensures c.write_arguments-listed.ensures refl (second_text _ c.if-indirect.false
    (wrote_nil _))
