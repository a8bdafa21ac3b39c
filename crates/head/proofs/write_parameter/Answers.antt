use Rattle.shape.proofs.TypeLaws.{here_yields}
use Rattle.shape.proofs.ArgumentLaws.{argument_at_lem}
use Rattle.shape.proofs.ExternLaws.{parameter_written}
use Rattle.head.proofs.write_parameter.Goals as goal

pub write_outermost_space-behind-requires : goal.write_outermost_space-behind-requires
write_outermost_space-behind-requires c =
    let a = argument_at_lem c.requires.1 c.requires.2 c.argument-a.ensures in
    (c.requires.0, here_yields _ _ _ a.0.of)

pub put_name_of-requires : goal.put_name_of-requires
put_name_of-requires c =
    let a = argument_at_lem c.requires.1 c.requires.2 c.argument-a.ensures in
    (c.requires.0, a.0.named)

pub returns : goal.returns
returns c =
    let a = argument_at_lem c.requires.1 c.requires.2 c.argument-a.ensures in
    parameter_written _ a.0 c.write_outermost_space-behind.ensures c.put_name_of.ensures
