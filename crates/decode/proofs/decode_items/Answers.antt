use native.Mathlib.Omega.{arith}
use Rattle.cursor.proofs.FieldLaws.{value, cut, field_lt}
use Rattle.names.proofs.NameLaws.{names_length}
use Rattle.decode.proofs.SheetLaws.{items_cut, items_fault, tail_fault, items_whole}
use Rattle.decode.proofs.decode_items.Goals as goal

pub check_items-requires : goal.check_items-requires
check_items-requires c =
    (c.requires.0, c.requires.1, omega (arith, field_lt 8 _ _ (value c.read.ensures c.in_ok-count.was), c.requires.2))

pub returns-in_err-count : goal.returns-in_err-count
returns-in_err-count c = items_cut _ _ _ _ _ c.from_residual.ensures.1 (cut c.read.ensures c.in_err-count.was)

pub returns-in_err-next : goal.returns-in_err-next
returns-in_err-next c =
    items_fault _ _ _ _ _ (value c.read.ensures c.in_ok-count.was) c.check_items.ensures
    c.from_residual-in_err-next.ensures.1 c.in_err-next.was

pub returns-in_err-check_tail : goal.returns-in_err-check_tail
returns-in_err-check_tail c =
    tail_fault _ _ _ _ _ (value c.read.ensures c.in_ok-count.was) c.check_items.ensures c.in_ok-next.was
    c.check_tail.ensures c.from_residual-in_err-check_tail.ensures.1 c.in_err-check_tail.was

pub returns : goal.returns
returns c =
    items_whole _ _ _ _ _ (value c.read.ensures c.in_ok-count.was) c.check_items.ensures c.in_ok-next.was
    c.check_tail.ensures (names_length _ _) c.in_ok-check_tail.was
