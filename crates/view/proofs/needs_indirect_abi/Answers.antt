use native.Mathlib.Omega.{arith}
use Rattle.types.proofs.KindLaws.{kind_room}
use Rattle.view.proofs.TypeLaws.{atom_room, indirect_atom}
use Rattle.view.proofs.needs_indirect_abi.Goals as goal

pub extract-k-requires : goal.extract-k-requires
extract-k-requires c = (c.requires.0.named.limited, omega arith, kind_room _ _ _ c.requires.1)

pub overflow_add-c : goal.overflow_add-c
overflow_add-c c = omega (arith, c.requires.0.named.limited, kind_room _ _ _ c.requires.1)

pub extract-a-requires : goal.extract-a-requires
extract-a-requires c =
    (c.requires.0.named.limited, omega arith, atom_room _ _ _ c.requires.1 c.extract-k.ensures c.if-k-eq0.true)

pub returns-then-k-eq0 : goal.returns-then-k-eq0
returns-then-k-eq0 c = indirect_atom _ _ _ c.requires.1 c.extract-k.ensures c.if-k-eq0.true c.extract-a.ensures _
