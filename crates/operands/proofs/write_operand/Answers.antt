use Rattle.shape.proofs.ArgumentLaws.{argument_at_lem}
use Rattle.summary.proofs.HeldLaws.{held_is, operand_written}
use Rattle.operands.proofs.write_operand.Goals as goal

pub put_name_of-c-requires : goal.put_name_of-c-requires
put_name_of-c-requires c =
    let a = argument_at_lem c.requires.1 c.requires.2 c.argument-a.ensures in
    (c.requires.0, a.0.named)

pub returns : goal.returns
returns c =
    let a = argument_at_lem c.requires.1 c.requires.2 c.argument-a.ensures in
    operand_written _ a.0 (held_is a.1 c.is_held-held.ensures) a.1.owner a.1.indirect
    c.put_when-b.ensures c.put_name_of-c.ensures c.put_operand_end.ensures
