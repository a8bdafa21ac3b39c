use Rattle.lexical.proofs.BoolLaws.{not-true, not-false}
use Rattle.nested.proofs.ViewLaws.{member_none, member_shares}
use mathlib.Core.Path.{ap}
use mathlib.Core.Bool.{not}
use Rattle.nested.proofs.is_member.Goals as goal

pub returns-then-not-needs_forward_declaration : goal.returns-then-not-needs_forward_declaration
returns-then-not-needs_forward_declaration c =
    member_none _ _ _ _ _ _ c.needs_forward_declaration.ensures (not-true _ (ap not c.if-not-needs_forward_declaration.true))

pub returns : goal.returns
returns c =
    member_shares _ _ _ _ _ _ c.needs_forward_declaration.ensures (not-false _ (ap not c.if-not-needs_forward_declaration.false))
    c.item-v.ensures.1 c.item-v.ensures.0 c.shares.ensures
