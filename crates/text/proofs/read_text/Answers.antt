use native.Mathlib.Omega.{arith}
use Rattle.cursor.proofs.FieldLaws.{value, cut, field_lt}
use Rattle.cursor.proofs.TableLaws.{filled_at, filled_fault}
use Rattle.text.proofs.CharLaws.{field_end}
use Rattle.text.proofs.TextLaws.{text_cut, text_short, text_whole}
use Rattle.text.proofs.read_text.Goals as goal

pub chars-requires : goal.chars-requires
chars-requires c =
    let e = value c.read.ensures c.in_ok-length.was in
    (omega arith, field_end _ _ _ e, omega (arith, field_lt _ _ _ e, c.requires))

pub returns-in_err-length : goal.returns-in_err-length
returns-in_err-length c = text_cut _ _ _ c.from_residual.ensures.1 (cut c.read.ensures c.in_err-length.was)

pub returns-in_err-next : goal.returns-in_err-next
returns-in_err-next c =
    text_short _ _ _ c.from_residual-in_err-next.ensures.1 (value c.read.ensures c.in_ok-length.was)
    (filled_fault c.chars.ensures c.in_err-next.was)

pub returns : goal.returns
returns c = text_whole _ _ _ (value c.read.ensures c.in_ok-length.was) (filled_at c.chars.ensures c.in_ok-next.was)
