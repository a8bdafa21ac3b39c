use Rattle.std.proofs.Common.{arith}
use Rattle.cursor.proofs.WidthLaws.{width_le}
use Rattle.sink.proofs.SinkLaws.{wrote_as}
use Rattle.tables.proofs.TableLaws.{width_is}
use Rattle.write_chain.proofs.InnerLaws.{type_room, atom_room, atom_text, str_text, named_room, named_low, named_text}
use Rattle.write_chain.proofs.write_inner.Goals as goal

pub overflow_add-p : goal.overflow_add-p
overflow_add-p c = omega (arith, c.requires.0.tabled.whole.named.limited, type_room _ _ _ _ c.requires.1)

pub extract-a-requires : goal.extract-a-requires
extract-a-requires c = (
  c.requires.0.tabled.whole.named.limited,
  omega arith,
  omega (
    arith,
    atom_room _ _ _ _ c.requires.1 c.requires.2
        c.if-k-eq0.true,
  ),
)

pub returns-then-k-eq0 : goal.returns-then-k-eq0
returns-then-k-eq0 c =
    wrote_as c.write_atom.ensures (atom_text _ _ _ _ c.requires.1 c.requires.2 _ c.if-k-eq0.true c.extract-a.ensures)

pub returns-then-k-eq9 : goal.returns-then-k-eq9
returns-then-k-eq9 c = wrote_as c.put_bytes.ensures (str_text _ _ _ _ c.requires.1 c.requires.2 _ c.if-k-eq9.true)

pub overflow_add-p-then-k-eq1 : goal.overflow_add-p-then-k-eq1
overflow_add-p-then-k-eq1 c = omega (arith, c.requires.0.tabled.whole.named.limited, type_room _ _ _ _ c.requires.1)

pub extract-i-requires : goal.extract-i-requires
extract-i-requires c = (
  c.requires.0.tabled.whole.named.limited,
  width_le _ c.width-w.ensures,
  named_room _ _ _ _ c.requires.1
      c.requires.2 (width_is c.requires.0.tabled c.width-w.ensures) c.if-k-eq1.true,
)

pub write_full_name-requires : goal.write_full_name-requires
write_full_name-requires c = (
  c.requires.0,
  named_low _ _ _ _ c.requires.1 c.requires.2 (width_is c.requires.0.tabled c.width-w.ensures)
      c.if-k-eq1.true c.extract-i.ensures,
)

pub returns-then-k-eq1 : goal.returns-then-k-eq1
returns-then-k-eq1 c =
    wrote_as c.write_full_name.ensures (named_text _ _ _ _ c.requires.1 c.requires.2 (width_is c.requires.0.tabled
    c.width-w.ensures) c.if-k-eq1.true _ c.extract-i.ensures)

pub write_type-walked-requires : goal.write_type-walked-requires
write_type-walked-requires c = (c.requires.0, rw c.new.ensures c.requires.1)

pub returns : goal.returns
returns c = rw c.new.ensures at c.write_type-walked.ensures.0
