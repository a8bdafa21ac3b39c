use Rattle.shape.proofs.TypeLaws.{here_yields}
use Rattle.shape.proofs.ArgumentLaws.{argument_at_lem}
use Rattle.shape.proofs.ExternLaws.{argument_written}
use Rattle.parameters.proofs.write_extern_arg.Goals as goal

pub write_extern_arg_type-typed-requires : goal.write_extern_arg_type-typed-requires
write_extern_arg_type-typed-requires c =
    let a = argument_at_lem c.requires.1 c.requires.2 c.argument-a.ensures in
    (c.requires.0, here_yields _ _ _ a.0.of, a.1.owner)

pub put_name_of-requires : goal.put_name_of-requires
put_name_of-requires c =
    let a = argument_at_lem c.requires.1 c.requires.2 c.argument-a.ensures in
    (c.requires.0, a.0.named)

pub returns : goal.returns
returns c =
    let a = argument_at_lem c.requires.1 c.requires.2 c.argument-a.ensures in
    argument_written _ a.0 a.1.indirect c.write_extern_arg_type-typed.ensures c.put_when-marked.ensures
    c.put_name_of.ensures
