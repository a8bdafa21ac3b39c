use Rattle.decode.proofs.AnswerLaws.{refused, whole}
use Rattle.write_sheet.proofs.JudgeLaws.{writes_refused}
use Rattle.std.proofs.lemmas.Result.{err_from_is_err_and}
use borrow.Author.Rules.{rules}
use Rattle.write_sheet.proofs.answer.Goals as goal

pub write_decoded-requires : goal.write_decoded-requires
write_decoded-requires c = (whole c.requires c.in_ok-o.was, search rules, search rules, search rules)

pub returns-in_err-o : goal.returns-in_err-o
returns-in_err-o c =
    let k = err_from_is_err_and c.from_residual.result c.from_residual.ensures.1 in
    rw (k.1, k.2) (writes_refused _ _ (refused c.requires c.in_err-o.was))
