use Rattle.decode.proofs.SheetLaws.{decode_cut, decode_within}
use Rattle.decode.proofs.decode.Goals as goal

pub returns-then-sheet-gt-SHEET : goal.returns-then-sheet-gt-SHEET
returns-then-sheet-gt-SHEET c = record { says = decode_cut _ c.if-sheet-gt-SHEET.true }

pub returns : goal.returns
returns c = rw (decode_within _ c.if-sheet-gt-SHEET.false) (rw c.new.ensures at c.decode_fields.ensures)
