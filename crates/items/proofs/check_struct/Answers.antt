use Rattle.cursor.proofs.FieldLaws.{value, cut, bit_checks}
use Rattle.cursor.proofs.CheckLaws.{stepped, stopped}
use Rattle.marks.proofs.GatherLaws.{abandoned}
use Rattle.items.proofs.ItemLaws.{struct_cut, struct_short, struct_marks}
use Rattle.items.proofs.check_struct.Goals as goal

pub returns-in_err-count : goal.returns-in_err-count
returns-in_err-count c =
    abandoned c.from_residual.ensures.1
    (struct_cut _ _ _ (stopped (bit_checks _ _ c.skip.ensures) c.in_err-count.was))

pub returns-in_err-fields : goal.returns-in_err-fields
returns-in_err-fields c =
    abandoned c.from_residual-in_err-fields.ensures.1
    (struct_short _ _ _ (stepped (bit_checks _ _ c.skip.ensures) c.in_ok-count.was).1
    (cut c.read.ensures c.in_err-fields.was))

pub returns : goal.returns
returns c =
    struct_marks _ _ _ (stepped (bit_checks _ _ c.skip.ensures) c.in_ok-count.was).1
    (value c.read.ensures c.in_ok-fields.was) c.check_types.ensures
