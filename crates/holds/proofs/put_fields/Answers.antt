use native.Mathlib.Omega.{arith}
use Rattle.holds.proofs.FieldLaws.{walk_none, walk_room, one_less, walk_type, walk_next, walk_done}
use Rattle.holds.proofs.put_fields.Goals as goal

pub loop-init : goal.loop-init
loop-init c = walk_none _ _ _ _ _ _ (omega arith) c.requires.2

pub held_at-f-requires : goal.held_at-f-requires
held_at-f-requires c =
    (c.requires.0, c.requires.1, walk_type _ _ _ _ _ _ c.loop.invariant (one_less (omega arith)))

pub put-end-requires : goal.put-end-requires
put-end-requires c = walk_room _ _ _ _ _ _ c.loop.invariant _ _ c.requires.2 (omega arith) c.requires.3

pub loop-preserved : goal.loop-preserved
loop-preserved c =
    walk_next _ _ _ _ _ _ c.loop.invariant (one_less (omega arith)) c.held_at-f.ensures c.put-end.ensures

pub returns : goal.returns
returns c = walk_done _ _ _ _ _ _ c.loop.invariant (omega arith)
