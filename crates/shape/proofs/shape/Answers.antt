use Rattle.shape.proofs.ShapeLaws.{shape_plain, shape_reference}
use Rattle.shape.proofs.shape.Goals as goal

pub returns-then-is_ref : goal.returns-then-is_ref
returns-then-is_ref c =
    shape_reference _ _ _ c.requires.1 c.field-k.ensures c.kind_of.ensures c.shape_kind-kind.ensures
    c.is_ref.ensures c.if-is_ref.true c.field-m.ensures

pub returns : goal.returns
returns c =
    shape_plain _ _ _ c.requires.1 c.field-k.ensures c.kind_of.ensures c.shape_kind-kind.ensures
    c.is_ref.ensures c.if-is_ref.false
