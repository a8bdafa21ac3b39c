use Rattle.shape.proofs.FunctionLaws.{returned, indirect_returns}
use Rattle.parameters.proofs.ParameterLaws.{slot_written, slot_left}
use Rattle.parameters.proofs.write_slot.Goals as goal

pub write_slot_type-typed-requires : goal.write_slot_type-typed-requires
write_slot_type-typed-requires c =
    (c.requires.0, (returned c.requires.1 (indirect_returns c.requires.1 c.requires.2 c.if-indirect.true)).1)

pub type_kind-kind-requires : goal.type_kind-kind-requires
type_kind-kind-requires c =
    (c.requires.0.tabled, (returned c.requires.1 (indirect_returns c.requires.1 c.requires.2 c.if-indirect.true)).1)

pub returns-then-indirect : goal.returns-then-indirect
returns-then-indirect c =
    slot_written c.requires.1 c.requires.2 _ c.if-indirect.true c.put_when-next.ensures
    c.write_slot_type-typed.ensures c.type_kind-kind.ensures c.write_space_after_type-spaced.ensures
    c.put_bytes.ensures

pub returns : goal.returns
returns c = slot_left c.requires.1 c.requires.2 _ _ c.if-indirect.false
