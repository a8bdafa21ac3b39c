use native.Mathlib.Omega.{arith}
use Rattle.sink.proofs.SinkLaws.{wrote_as}
use Rattle.put_name.proofs.CharLaws.{name_chars, name_is}
use Rattle.put_name.proofs.put_name.Goals as goal

pub put_chars-requires : goal.put_chars-requires
put_chars-requires c =
    let found = rw c.new.ensures at c.field-length.ensures in
    rw (name_is _ _ c.requires.1 found) (omega arith, name_chars _ _ c.requires.1 found)

pub returns : goal.returns
returns c = wrote_as c.put_chars.ensures (name_is _ _ c.requires.1 (rw c.new.ensures at c.field-length.ensures))
