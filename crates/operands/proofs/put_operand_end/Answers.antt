use Rattle.operands.proofs.OperandLaws.{end_by_owner, end_of_others}
use Rattle.operands.proofs.put_operand_end.Goals as goal

pub returns-in-1 : goal.returns-in-1
returns-in-1 c = end_by_owner _ c.in-1.is c.put_bytes.ensures

pub returns-in-2 : goal.returns-in-2
returns-in-2 c = end_by_owner _ c.in-2.is c.put_bytes-in-2.ensures

pub returns-in_default : goal.returns-in_default
returns-in_default c = end_of_others c.args.owner _ c.in_default.in_default-own.rest c.put_when.ensures
