use Rattle.decode.proofs.AnswerLaws.{refused, whole}
use Rattle.check_sheet.proofs.CheckLaws.{check_refused}
use Rattle.std.proofs.lemmas.Result.{err_from_is_err_and}
use borrow.Author.Rules.{rules}
use Rattle.check_sheet.proofs.answer.Goals as goal

pub check_decoded-requires : goal.check_decoded-requires
check_decoded-requires c = (whole c.requires c.in_ok-o.was, search rules, search rules, search rules)

pub returns-in_err-o : goal.returns-in_err-o
returns-in_err-o c =
    let k = err_from_is_err_and c.from_residual.result c.from_residual.ensures.1 in
    rw (k.1, k.2) (check_refused _ (refused c.requires c.in_err-o.was))
