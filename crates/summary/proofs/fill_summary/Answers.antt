use Rattle.std.proofs.Common.{arith, length-set}
use Rattle.summary.proofs.SummaryLaws.{summary_filled, comment_behind}
use Rattle.summary.proofs.fill_summary.Goals as goal

pub fill_arguments-comment-requires : goal.fill_arguments-comment-requires
fill_arguments-comment-requires c = (c.requires.0, c.requires.1, omega (arith, c.requires.2))

pub bounds-words-n : goal.bounds-words-n
bounds-words-n c = omega (arith, c.requires.1.view.few, c.requires.2, c.fill_arguments-comment.auto)

pub bounds-words-n-2 : goal.bounds-words-n-2
bounds-words-n-2 c =
    simp length-set (omega (arith, c.requires.1.view.few, c.requires.2, c.fill_arguments-comment.auto))

pub bounds-words-n-3 : goal.bounds-words-n-3
bounds-words-n-3 c =
    simp length-set (omega (arith, c.requires.1.view.few, c.requires.2, c.fill_arguments-comment.auto))

pub bounds-words-n-4 : goal.bounds-words-n-4
bounds-words-n-4 c =
    simp length-set (omega (arith, c.requires.1.view.few, c.requires.2, c.fill_arguments-comment.auto))

pub bounds-words-n-5 : goal.bounds-words-n-5
bounds-words-n-5 c =
    simp length-set (omega (arith, c.requires.1.view.few, c.requires.2, c.fill_arguments-comment.auto))

pub returns : goal.returns
returns c = (
  summary_filled _ _ c.fill_arguments-comment.ensures.0 (omega (
    arith,
    c.requires.1.view.few,
    c.requires.2,
    c.fill_arguments-comment.auto,
  )) (comment_behind _ c.requires.1 c.fill_arguments-comment.ensures.1),
  comment_behind _ c.requires.1 c.fill_arguments-comment.ensures.1,
)
