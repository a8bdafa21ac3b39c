use mathlib.Core.Path.{refl}
use native.Mathlib.Omega.{arith}
use Rattle.sink.proofs.StoreLaws.{room, no_room, wrote_copied, wrote_none}
use Rattle.sink.proofs.put_bytes.Goals as goal

pub returns-then-has_room : goal.returns-then-has_room
returns-then-has_room c = wrote_copied c.copy_at.ensures (room c.has_room.ensures c.if-has_room.true) (omega arith)

pub returns : goal.returns
returns c = wrote_none refl (no_room c.has_room.ensures c.if-has_room.false) (omega arith) c.advance.ensures
