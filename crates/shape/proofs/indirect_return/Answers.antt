use Rattle.shape.proofs.FunctionLaws.{returned, slot_none, slot_throws, slot_by_type}
use Rattle.shape.proofs.indirect_return.Goals as goal

pub returns-then-f-2 : goal.returns-then-f-2
returns-then-f-2 c = slot_throws c.requires.1 c.if-f.true c.if-f-2.true

pub needs_indirect_abi-requires : goal.needs_indirect_abi-requires
needs_indirect_abi-requires c = (c.requires.0, (returned c.requires.1 c.if-f.true).1)

pub returns-then-f : goal.returns-then-f
returns-then-f c = slot_by_type c.requires.1 c.if-f.true c.if-f-2.false c.needs_indirect_abi.ensures

pub returns : goal.returns
returns c = slot_none c.requires.1 c.if-f.false
