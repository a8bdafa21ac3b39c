use native.Mathlib.Omega.{arith}
use mathlib.Core.Bool.{true, false}
use mathlib.Core.Path.{refl}
use Rattle.format.specs.Decoding.{line}
use Rattle.lexical.proofs.BoolLaws.{known}
use Rattle.cursor.proofs.FieldLaws.{value, cut, field_lt}
use Rattle.cursor.proofs.CheckLaws.{refused}
use Rattle.text.proofs.CharLaws.{field_end}
use Rattle.comments.proofs.LineLaws.{line_short, line_whole}
use Rattle.comments.proofs.check_line.Goals as goal

pub overflow_mul-end : goal.overflow_mul-end
overflow_mul-end c = omega (arith, field_lt 7 _ _ (value c.read.ensures c.in_ok-length.was))

pub overflow_add-end : goal.overflow_add-end
overflow_add-end c =
    let e = value c.read.ensures c.in_ok-length.was in
    omega (arith, field_lt 7 _ _ e, field_end 7 _ _ e)

pub returns-in_err-length : goal.returns-in_err-length
unfolding line
returns-in_err-length c = refused c.from_residual.ensures.1 (rw (cut c.read.ensures c.in_err-length.was) refl)

pub returns-then-end_of-end : goal.returns-then-end_of-end
returns-then-end_of-end c = line_short _ _ (value c.read.ensures c.in_ok-length.was) (omega arith)

pub returns-then-is_line : goal.returns-then-is_line
returns-then-is_line c =
    line_whole _ _ (value c.read.ensures c.in_ok-length.was) true (omega arith) (known c.is_line.ensures
    c.if-is_line.true)

pub returns : goal.returns
returns c =
    line_whole _ _ (value c.read.ensures c.in_ok-length.was) false (omega arith) (known c.is_line.ensures
    c.if-is_line.false)
