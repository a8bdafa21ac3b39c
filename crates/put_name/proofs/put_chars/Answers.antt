use mathlib.Core.Path.{sym}
use native.Mathlib.Omega.{arith}
use Rattle.sink.proofs.SinkLaws.{wrote_nil, wrote_as}
use Rattle.sink.proofs.StoreLaws.{room, no_room, wrote_part, wrote_none}
use Rattle.put_name.proofs.CharLaws.{no_chars, chars_inside, chars_count, chars_held}
use Rattle.put_name.proofs.put_chars.Goals as goal

pub returns-then-n-eq0 : goal.returns-then-n-eq0
returns-then-n-eq0 c = wrote_as (wrote_nil _) (sym (no_chars _ _ _ c.if-n-eq0.true))

pub overflow_add-end : goal.overflow_add-end
overflow_add-end c = omega (arith, room c.has_room-room.ensures c.if-room.true)

pub unpack-requires : goal.unpack-requires
unpack-requires c = (omega arith, chars_inside _ _ _ (omega arith) c.requires.1, omega arith)

pub returns-then-room : goal.returns-then-room
returns-then-room c =
    wrote_part (chars_held _ _ _ (chars_inside _ _ _ (omega arith) c.requires.1) c.unpack.ensures (omega arith))
    (chars_count _ _ _ (chars_inside _ _ _ (omega arith) c.requires.1)) (room c.has_room-room.ensures
    c.if-room.true) (omega arith)

pub returns : goal.returns
returns c =
    wrote_none (chars_count _ _ _ (chars_inside _ _ _ (omega arith) c.requires.1)) (no_room c.has_room-room.ensures
    c.if-room.false) (omega arith) c.advance.ensures
