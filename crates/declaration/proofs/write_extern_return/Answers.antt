use Rattle.sink.proofs.SinkLaws.{wrote_as}
use Rattle.shape.proofs.FunctionLaws.{returned}
use Rattle.declaration.proofs.ReturnLaws.{return_throws, return_indirect, return_direct, return_none}
use Rattle.declaration.proofs.write_extern_return.Goals as goal

pub returns-then-f : goal.returns-then-f
returns-then-f c = wrote_as c.put_bytes.ensures (return_throws c.requires.1 c.if-f.true)

pub returns-then-indirect : goal.returns-then-indirect
returns-then-indirect c =
    wrote_as c.put_bytes-then-indirect.ensures (return_indirect c.requires.1 c.if-f.false c.requires.2
    c.if-indirect.true)

pub write_direct_return-requires : goal.write_direct_return-requires
write_direct_return-requires c = (c.requires.0, (returned c.requires.1 c.if-f-2.true).1)

pub returns-then-f-2 : goal.returns-then-f-2
returns-then-f-2 c =
    wrote_as c.write_direct_return.ensures (return_direct c.requires.1 c.if-f.false c.requires.2 c.if-indirect.false
    c.if-f-2.true)

pub returns : goal.returns
returns c =
    wrote_as c.put_bytes-2.ensures (return_none c.requires.1 c.if-f.false c.requires.2 c.if-indirect.false
    c.if-f-2.false)
