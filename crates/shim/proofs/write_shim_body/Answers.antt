use Rattle.shim.proofs.ShimLaws.{slot_yields, direct_yields, body_written}
use Rattle.shim.proofs.write_shim_body.Goals as goal

pub indirect_return-indirect-requires : goal.indirect_return-indirect-requires
indirect_return-indirect-requires c = (c.requires.0.tabled, c.requires.2)

pub write_held_locals-held-requires : goal.write_held_locals-held-requires
write_held_locals-held-requires c = (c.requires.0, c.requires.4)

pub write_slot-slotted-requires : goal.write_slot-slotted-requires
write_slot-slotted-requires c = (c.requires.0, slot_yields c.requires.2 c.indirect_return-indirect.ensures)

pub write_return-returned-requires : goal.write_return-returned-requires
write_return-returned-requires c =
    (c.requires.0, direct_yields c.requires.2 c.indirect_return-indirect.ensures c.is_direct-direct.ensures)

pub write_extern_fn-named-requires : goal.write_extern_fn-named-requires
write_extern_fn-named-requires c = (c.requires.0, c.requires.1, c.requires.2)

pub write_operands-listed-requires : goal.write_operands-listed-requires
write_operands-listed-requires c = (c.requires.0, c.requires.2, c.requires.4, c.indirect_return-indirect.ensures)

pub put_call_end-taken-requires : goal.put_call_end-taken-requires
put_call_end-taken-requires c = (
  c.requires.0.tabled.whole.named.limited,
  direct_yields c.requires.2 c.indirect_return-indirect.ensures
      c.is_direct-direct.ensures,
)

pub put_slot_return-given-requires : goal.put_slot_return-given-requires
put_slot_return-given-requires c =
    (c.requires.0.tabled.whole.named.limited, slot_yields c.requires.2 c.indirect_return-indirect.ensures)

pub returns : goal.returns
returns c =
    body_written c.requires.2 c.indirect_return-indirect.ensures c.is_direct-direct.ensures _
    c.put_bytes-begun.ensures c.write_held_locals-held.ensures c.put_bytes-indented.ensures
    c.write_slot-slotted.ensures c.write_return-returned.ensures c.put_when-guarded.ensures
    c.write_extern_fn-named.ensures c.put_bytes-opened.ensures c.write_operands-listed.ensures
    c.put_bytes-closed.ensures c.put_call_end-taken.ensures c.put_bytes-called.ensures c.put_when-tested.ensures
    c.put_slot_return-given.ensures c.put_bytes.ensures
