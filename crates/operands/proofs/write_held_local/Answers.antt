use Rattle.sink.proofs.SinkLaws.{◌▷◌}
use Rattle.shape.proofs.TypeLaws.{here_yields}
use Rattle.shape.proofs.ArgumentLaws.{argument_at_lem}
use Rattle.summary.proofs.HeldLaws.{held_is, local_none, local_written}
use Rattle.operands.proofs.write_held_local.Goals as goal

pub write_outermost-typed-requires : goal.write_outermost-typed-requires
write_outermost-typed-requires c =
    let a = argument_at_lem c.requires.1 c.requires.2 c.argument-a.ensures in
    (c.requires.0, here_yields _ _ _ a.0.of)

pub put_name_of-named-requires : goal.put_name_of-named-requires
put_name_of-named-requires c =
    let a = argument_at_lem c.requires.1 c.requires.2 c.argument-a.ensures in
    (c.requires.0, a.0.named)

pub put_name_of-held_name-requires : goal.put_name_of-held_name-requires
put_name_of-held_name-requires c =
    let a = argument_at_lem c.requires.1 c.requires.2 c.argument-a.ensures in
    (c.requires.0, a.0.named)

pub returns-then-is_held : goal.returns-then-is_held
returns-then-is_held c =
    let a = argument_at_lem c.requires.1 c.requires.2 c.argument-a.ensures in
    local_written _ a.0 (held_is a.1 c.is_held.ensures) c.if-is_held.true (c.put_bytes-begun.ensures ▷
    c.write_outermost-typed.ensures ▷ c.put_bytes-closed.ensures ▷ c.put_name_of-named.ensures ▷
    c.put_bytes-moved.ensures ▷
    c.put_name_of-held_name.ensures ▷ c.put_bytes.ensures)

pub returns : goal.returns
returns c =
    let a = argument_at_lem c.requires.1 c.requires.2 c.argument-a.ensures in
    local_none _ a.0 (held_is a.1 c.is_held.ensures) _ c.if-is_held.false
