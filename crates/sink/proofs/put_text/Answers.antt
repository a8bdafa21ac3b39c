use native.Mathlib.Omega.{arith}
use mathlib.Core.Path.{refl}
use Rattle.sink.proofs.StoreLaws.{room, no_room, wrote_part, wrote_none}
use Rattle.sink.proofs.put_text.Goals as goal

pub returns-then-has_room : goal.returns-then-has_room
returns-then-has_room c = wrote_part c.copy.ensures refl (room c.has_room.ensures c.if-has_room.true) (omega arith)

pub returns : goal.returns
returns c = wrote_none refl (no_room c.has_room.ensures c.if-has_room.false) (omega arith) c.advance.ensures
