use Rattle.write_sheet.proofs.JudgeLaws.{judged_refused, judged_accepted}
use Rattle.write_sheet.proofs.write_judged.Goals as goal

pub returns-in_err-judge_in : goal.returns-in_err-judge_in
returns-in_err-judge_in c =
    judged_refused _ c.from_residual.ensures.1 c.judge_in.ensures c.in_err-judge_in.was

pub returns : goal.returns
returns c = judged_accepted c.judge_in.ensures c.in_ok-judge_in.was c.deliver.ensures
