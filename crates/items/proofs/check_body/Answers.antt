use Rattle.items.proofs.ItemLaws.{enum_marks, opaque_marks}
use Rattle.items.proofs.check_body.Goals as goal

pub returns-in-Enum : goal.returns-in-Enum
returns-in-Enum c = rw c.in-Enum.is (enum_marks _ _ c.check_enum.ensures)

pub returns-in-CxxType : goal.returns-in-CxxType
returns-in-CxxType c = opaque_marks _ _ _ _ c.in-CxxType.is c.skip.ensures
