use mathlib.Core.Path.{refl}
use Rattle.cursor.proofs.FieldLaws.{value, cut}
use Rattle.cursor.proofs.CheckLaws.{tail, refused}
use Rattle.comments.specs.Comments.{comment}
use Rattle.comments.proofs.check_comment.Goals as goal

pub returns-in_err-count : goal.returns-in_err-count
unfolding comment
returns-in_err-count c =
    λ make. refused c.from_residual.ensures.1 (rw (cut c.read.ensures c.in_err-count.was) refl)

pub returns : goal.returns
unfolding comment
returns c = λ make. rw (value c.read.ensures c.in_ok-count.was) (tail make c.check_lines.ensures)
