use Rattle.lexical.proofs.BoolLaws.{not-true, not-false}
use Rattle.nested.proofs.ViewLaws.{direct_none, direct_elsewhere, direct_shares}
use mathlib.Core.Path.{ap}
use mathlib.Core.Bool.{not}
use Rattle.nested.proofs.is_direct.Goals as goal

pub returns-then-depth_at-depth : goal.returns-then-depth_at-depth
returns-then-depth_at-depth c = direct_elsewhere _ _ _ _ _ _ c.depth_at.ensures c.if-depth_at-depth.true

pub returns-then-not-needs_forward_declaration : goal.returns-then-not-needs_forward_declaration
returns-then-not-needs_forward_declaration c =
    direct_none _ _ _ _ _ _ c.needs_forward_declaration.ensures (not-true _ (ap not c.if-not-needs_forward_declaration.true))

pub returns : goal.returns
returns c =
    direct_shares _ _ _ _ _ _ c.needs_forward_declaration.ensures (not-false _ (ap not c.if-not-needs_forward_declaration.false))
    c.item-v.ensures.1 c.item-v.ensures.0 c.shares.ensures c.depth_at.ensures c.if-depth_at-depth.false
