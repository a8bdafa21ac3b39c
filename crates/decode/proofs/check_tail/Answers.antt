use Rattle.cursor.proofs.FieldLaws.{value, cut}
use Rattle.decode.proofs.SheetLaws.{tail_cut, tail_dirty, tail_whole, tail_more}
use Rattle.decode.proofs.check_tail.Goals as goal

pub returns-in_err-zeros : goal.returns-in_err-zeros
returns-in_err-zeros c = λ x. tail_cut x _ _ c.from_residual.ensures.1 (cut c.read.ensures c.in_err-zeros.was)

pub returns-then-zeros-ne0 : goal.returns-then-zeros-ne0
returns-then-zeros-ne0 c = λ x. tail_dirty x _ _ (value c.read.ensures c.in_ok-zeros.was) c.if-zeros-ne0.true

pub returns-then-bytes-s : goal.returns-then-bytes-s
returns-then-bytes-s c =
    λ x. tail_whole x _ _ (value c.read.ensures c.in_ok-zeros.was) c.if-zeros-ne0.false c.if-bytes-s.true

pub returns : goal.returns
returns c = λ x. tail_more x _ _ (value c.read.ensures c.in_ok-zeros.was) c.if-zeros-ne0.false c.if-bytes-s.false
