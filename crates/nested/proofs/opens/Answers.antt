use Rattle.lexical.proofs.BoolLaws.{not-true, not-false}
use Rattle.nested.proofs.ViewLaws.{opens_unneeded, opens_shallow, opens_outside, opens_inside}
use mathlib.Core.Path.{ap, ◌∙◌}
use mathlib.Core.Bool.{not}
use Rattle.nested.proofs.opens.Goals as goal

pub returns-then-depth_at-depth : goal.returns-then-depth_at-depth
returns-then-depth_at-depth c = opens_shallow _ _ _ _ _ _ c.depth_at.ensures c.if-depth_at-depth.true

pub returns-then-not-needs_forward_declaration : goal.returns-then-not-needs_forward_declaration
returns-then-not-needs_forward_declaration c =
    opens_unneeded _ _ _ _ _ _ c.needs_forward_declaration.ensures (not-true _ (ap not c.if-not-needs_forward_declaration.true))

pub returns-then-shares : goal.returns-then-shares
returns-then-shares c =
    opens_inside _ _ _ _ _ _ c.needs_forward_declaration.ensures (not-false _
    (ap not c.if-not-needs_forward_declaration.false)) c.item-v.ensures.1 c.item-v.ensures.0 c.shares.ensures
    c.depth_at.ensures c.if-depth_at-depth.false c.if-shares.true c.is_first.ensures

pub returns-else-shares : goal.returns-else-shares
returns-else-shares c =
    c.if-shares.false ∙ opens_outside _ _ _ _ _ _ c.needs_forward_declaration.ensures (not-false _
    (ap not c.if-not-needs_forward_declaration.false)) c.item-v.ensures.1 c.item-v.ensures.0 c.shares.ensures
    c.depth_at.ensures c.if-depth_at-depth.false c.if-shares.false
