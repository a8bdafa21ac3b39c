use native.Mathlib.Omega.{arith}
use mathlib.Core.Path.{refl}
use Rattle.types.proofs.KindLaws.{kind_room, kind_here}
use Rattle.arguments.proofs.ArgumentLaws.{judged, judged_error}
use Rattle.arguments.proofs.judge_argument.Goals as goal

pub extract-k-requires : goal.extract-k-requires
extract-k-requires c = (c.requires.0.limited, omega arith, kind_room _ _ _ c.requires.3)

pub judge_error-requires : goal.judge_error-requires
judge_error-requires c =
    (c.requires.0.limited, c.requires.3, kind_here _ _ _ c.requires.3 c.extract-k.ensures c.kind_of.ensures)

pub returns-then-name_when : goal.returns-then-name_when
returns-then-name_when c =
    judged_error _ _ _ _ refl (kind_here _ _ _ c.requires.3 c.extract-k.ensures refl) c.is_vector-vector.ensures
    c.mark_if.ensures c.name_when-receiver.ensures c.mark_if-2.ensures c.name_when.ensures refl c.if-name_when.true
    c.judge_error.ensures

pub returns-else-name_when : goal.returns-else-name_when
returns-else-name_when c =
    judged _ _ _ _ refl (kind_here _ _ _ c.requires.3 c.extract-k.ensures refl) c.is_vector-vector.ensures
    c.mark_if.ensures c.name_when-receiver.ensures c.mark_if-2.ensures c.name_when.ensures c.if-name_when.false
