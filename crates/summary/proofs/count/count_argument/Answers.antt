use Rattle.std.proofs.Common.{refl}
use Rattle.shape.proofs.TypeLaws.{here_yields}
use Rattle.shape.proofs.ArgumentLaws.{argument_at_lem}
use Rattle.count_type.proofs.CountLaws.{wrote_counted}
use Rattle.shape.proofs.ExternLaws.{argument_written, parameter_written}
use Rattle.summary.proofs.HeldLaws.{held_is, local_passed, operand_written}
use Rattle.summary.proofs.LengthLaws.{positive, passed, ahead, within, later, near, passed_near, passed_none}
use Rattle.summary.proofs.LengthLaws.{passed_all}
use Rattle.summary.proofs.count.count_argument.Goals as goal

pub type_length-n-requires : goal.type_length-n-requires
type_length-n-requires c =
    let a = argument_at_lem c.requires.1 c.requires.2 c.argument-a.ensures in
    (c.requires.0, here_yields _ _ _ a.0.of)

pub returns-then-n-eq0 : goal.returns-then-n-eq0
returns-then-n-eq0 c = passed_none refl

pub name_length-name-requires : goal.name_length-name-requires
name_length-name-requires c =
    let a = argument_at_lem c.requires.1 c.requires.2 c.argument-a.ensures in
    (c.requires.0, a.0.named)

pub declared_type-typed-requires : goal.declared_type-typed-requires
declared_type-typed-requires c =
    let a = argument_at_lem c.requires.1 c.requires.2 c.argument-a.ensures in (
      c.requires.0,
      here_yields _ _ _ a.0.of,
      a.1.owner,
      c.type_length-n.ensures,
      positive c.if-n-eq0.false,
      c.requires.4.exts.0,
    )

pub returns : goal.returns
returns c =
    let a = argument_at_lem c.requires.1 c.requires.2 c.argument-a.ensures in
    let h = held_is a.1 c.is_held-held.ensures in
    let q = c.requires.4 in
    let typed = later c.declared_type-typed.ensures q.exts.0 q.exts.1 in
    passed_all
    (argument_written _ a.0 a.1.indirect c.declared_type-typed.ensures
    (passed c.star_length-star.ensures.0 typed (near c.declared_type-typed.ensures q.exts.1) c.advance-marked.ensures)
    (passed_near c.name_length-name.ensures (ahead _ _ c.advance-marked.ensures typed)
    (within _ _ c.advance-marked.ensures) c.advance.ensures))
    (parameter_written _ a.0
    (wrote_counted q.pars.0 c.type_length-n.ensures (positive c.if-n-eq0.false) q.pars.1 c.advance-spaced.ensures)
    (passed_near c.name_length-name.ensures (ahead _ _ c.advance-spaced.ensures q.pars.0)
    (within _ _ c.advance-spaced.ensures) c.advance-2.ensures))
    (local_passed _ a.0 h c.type_length-n.ensures (positive c.if-n-eq0.false) c.name_length-name.ensures
    q.locals.0 q.locals.1 c.behind_local.ensures)
    (operand_written _ a.0 h a.1.owner a.1.indirect
    (passed c.star_length-star.ensures.1 q.operands.0 q.operands.1 c.advance-begun.ensures)
    (passed_near c.name_length-name.ensures (ahead _ _ c.advance-begun.ensures q.operands.0)
    (within _ _ c.advance-begun.ensures) c.advance-named.ensures)
    (passed c.end_length-end.ensures (ahead _ _ c.advance-named.ensures (ahead _ _ c.advance-begun.ensures
    q.operands.0))
    (within _ _ c.advance-named.ensures) c.advance-3.ensures))
