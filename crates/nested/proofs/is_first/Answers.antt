use native.Mathlib.Omega.{arith}
use Rattle.nested.proofs.ViewLaws.{first_begin, first_turn, first_found, first_end}
use Rattle.nested.proofs.is_first.Goals as goal

pub loop-k-init : goal.loop-k-init
loop-k-init c = first_begin _ _ _ c.requires.2 _

pub returns-then-is_member : goal.returns-then-is_member
returns-then-is_member c = first_found _ _ _ c.requires.2 _ (omega arith) c.is_member.ensures c.if-is_member.true

pub loop-k-preserved : goal.loop-k-preserved
loop-k-preserved c =
    first_turn _ _ _ c.requires.2 _ (omega arith) c.is_member.ensures c.if-is_member.false
    c.loop-k.invariant

pub returns : goal.returns
returns c = first_end _ _ _ c.requires.2 _ c.loop-k.k (omega arith) (omega arith) c.loop-k.invariant
