use native.Mathlib.Omega.{arith}
use Rattle.types.proofs.KindLaws.{kind_room}
use Rattle.view.proofs.TypeLaws.{atom_room, indirect_atom, string_atom, string_other}
use Rattle.view.proofs.TypeLaws.{owner_low, owner_is, owner_atom}
use Rattle.view.proofs.ArgumentLaws.{entry_of}
use Rattle.view.proofs.argument_entry.Goals as goal

pub extract-k-requires : goal.extract-k-requires
extract-k-requires c = (c.requires.0.named.limited, omega arith, kind_room _ _ _ c.requires.2)

pub overflow_add-c : goal.overflow_add-c
overflow_add-c c = omega (arith, c.requires.0.named.limited, kind_room _ _ _ c.requires.2)

pub extract-a-requires : goal.extract-a-requires
extract-a-requires c =
    (c.requires.0.named.limited, omega arith, atom_room _ _ _ c.requires.2 c.extract-k.ensures c.if-k-eq0.true)

pub pack-requires : goal.pack-requires
pack-requires c = (c.requires.1, omega (arith, c.requires.0.named.limited, kind_room _ _ _ c.requires.2), omega arith)

pub returns-then-k-eq0 : goal.returns-then-k-eq0
returns-then-k-eq0 c =
    entry_of c.pack.result c.pack.ensures (owner_atom _ _ _ c.requires.2 c.extract-k.ensures c.if-k-eq0.true)
    (indirect_atom _ _ _ c.requires.2 c.extract-k.ensures c.if-k-eq0.true c.extract-a.ensures _) (string_atom _ _
    _ c.requires.2 c.extract-k.ensures c.if-k-eq0.true c.extract-a.ensures)

pub pack-requires-2 : goal.pack-requires-2
pack-requires-2 c = (
  c.requires.1,
  omega (arith, c.requires.0.named.limited, kind_room _ _ _ c.requires.2),
  owner_low
      c.extract-k.result c.owner_of.ensures,
)

pub returns : goal.returns
returns c =
    entry_of c.pack-2.result c.pack-2.ensures (owner_is _ _ _ c.requires.2 c.extract-k.ensures
    c.owner_of.ensures) c.is_indirect_other-indirect.ensures (string_other _ _ _ c.requires.2
    c.extract-k.ensures c.if-k-eq0.false)
