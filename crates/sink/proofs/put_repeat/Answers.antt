use native.Mathlib.Omega.{arith}
use lib.ListN.{length-replicate}
use Rattle.sink.proofs.StoreLaws.{repeated_next, wrote_repeated, wrote_none}
use Rattle.sink.proofs.StoreLaws.{room, no_room}
use Rattle.sink.proofs.put_repeat.Goals as goal

pub loop-i-preserved : goal.loop-i-preserved
loop-i-preserved c =
    let args = c.args in
    repeated_next args.count args.byte c.loop-i.invariant (omega arith)

pub returns-then-has_room : goal.returns-then-has_room
returns-then-has_room c =
    wrote_repeated c.args.count c.args.byte c.loop-i.invariant (omega arith) (room c.has_room.ensures
    c.if-has_room.true) (omega arith)

pub returns : goal.returns
returns c =
    wrote_none (length-replicate _ _) (no_room c.has_room.ensures c.if-has_room.false) (omega arith)
    c.advance.ensures
