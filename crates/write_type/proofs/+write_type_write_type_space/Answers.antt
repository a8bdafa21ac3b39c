use Rattle.std.proofs.Common.{arith}
use Rattle.cursor.proofs.WidthLaws.{width_le}
use Rattle.format.specs.Types.{none}
use Rattle.format.specs.Decoding.{optional, type_at}
use Rattle.bridge.specs.WriteType.{write_ret}
use Rattle.write_type.proofs.Spelling.{Spells}
use Rattle.write_type.proofs.SpellLaws.{level_left, kind_is, body_there, as_type, not_bad, as_space}
use Rattle.write_type.proofs.SpellLaws.{spells_atom, item_there, spells_named, spells_str}
use Rattle.write_type.proofs.SpellLaws.{template_there, spells_template}
use Rattle.write_type.proofs.SpellLaws.{array_there, spells_array, pointer_there, spells_pointer}
use Rattle.write_type.proofs.SpellLaws.{gives_there, spells_gives, spells_void, spells_met}
use Rattle.write_type.proofs.SpellLaws.{types_there, spells_fn}
use Rattle.write_type.proofs.ListLaws.{going_none, going_there, going_turn, going_done}
use Rattle.tables.specs.Tables.{items_of}
use Rattle.tables.proofs.TableLaws.{width_is}
use Rattle.write_type.proofs.+write_type_write_type_space.Goals as goal
use Rattle.write_type.proofs.+write_type_write_type_space.Goals.{write_type-then-b-eq1, write_type-else-b-eq1}

pub write_type-overflow_sub-inner : goal.write_type-overflow_sub-inner
write_type-overflow_sub-inner t c = omega (arith, level_left _ _ _ _ c.requires.1)

pub write_type-returns-in-Atom : goal.write_type-returns-in-Atom
write_type-returns-in-Atom t c =
    as_type _ _ _ _ c.requires.1 c.field-k.ensures c.kind_of-kind.ensures _ c.in-Atom.is (λ h. spells_atom _ _ _ h
    c.field-a.ensures c.write_atom-end.ensures)

pub write_type-field-i-requires : goal.write_type-field-i-requires
write_type-field-i-requires t c = (c.requires.0.tabled.whole.named.limited, width_le _ c.width-w.ensures)

pub write_type-write_full_name-end-requires : goal.write_type-write_full_name-end-requires
write_type-write_full_name-end-requires t c = (
  c.requires.0,
  item_there _ _ _ (body_there _ _ _ _ c.requires.1 c.field-k.ensures c.kind_of-kind.ensures
      c.in-Named.is) (width_is c.requires.0.tabled c.width-w.ensures) c.field-i.ensures,
)

pub write_type-returns-in-Named : goal.write_type-returns-in-Named
write_type-returns-in-Named t c =
    as_type _ _ _ _ c.requires.1 c.field-k.ensures c.kind_of-kind.ensures _ c.in-Named.is (λ h. spells_named _ _ _ h
    (width_is c.requires.0.tabled c.width-w.ensures) c.field-i.ensures _ c.write_full_name-end.ensures)

pub write_type-write_type-w-requires : goal.write_type-write_type-w-requires
write_type-write_type-w-requires t c = (
  omega (arith, c.requires.0, level_left _ _ _ _ c.requires.1),
  (
    c.requires.0,
    template_there _ _ _ _ _ (body_there
        _ _ _ _ c.requires.1 c.field-k.ensures c.kind_of-kind.ensures c.in-Template.is),
  ),
)

pub write_type-returns-in-Template : goal.write_type-returns-in-Template
write_type-returns-in-Template t c =
    as_type _ _ _ _ c.requires.1 c.field-k.ensures c.kind_of-kind.ensures _ c.in-Template.is (λ h. spells_template _ _
    _ _ _ h _ c.put_template-begin.ensures c.write_type-w.ensures c.put_bytes-end.ensures)

pub write_type-write_type_space-w-requires : goal.write_type-write_type_space-w-requires
write_type-write_type_space-w-requires t c = (
  omega (arith, c.requires.0, level_left _ _ _ _ c.requires.1),
  (
    c.requires.0,
    pointer_there _ _ _ _ _ (body_there
        _ _ _ _ c.requires.1 c.field-k.ensures c.kind_of-kind.ensures c.in-Pointer.is) c.field-m.ensures,
  ),
)

pub write_type-returns-in-Pointer : goal.write_type-returns-in-Pointer
write_type-returns-in-Pointer t c =
    as_type _ _ _ _ c.requires.1 c.field-k.ensures c.kind_of-kind.ensures _ c.in-Pointer.is (λ h. spells_pointer _ _ _
    _ _ h c.field-m.ensures _ c.put_pointer_begin-begin.ensures c.write_type_space-w.ensures
    c.put_pointer_end-end.ensures)

pub write_type-returns-in-Str : goal.write_type-returns-in-Str
write_type-returns-in-Str t c =
    as_type _ _ _ _ c.requires.1 c.field-k.ensures c.kind_of-kind.ensures _ c.in-Str.is (λ h. spells_str _
    c.put_bytes-end-in-Str.ensures)

pub write_type-write_type-w-requires-then-b-eq1 : goal.write_type-write_type-w-requires-then-b-eq1
write_type-write_type-w-requires-then-b-eq1 t c = (
  omega (arith, c.requires.0, level_left _ _ _ _ c.requires.1),
  (
    c.requires.0,
    gives_there _ _ _ _ (body_there _ _
        _ _ c.requires.1 c.field-k.ensures c.kind_of-kind.ensures c.in-Fn.is) c.field-b.ensures c.if-b-eq1.true,
  ),
)

pub write_type-field-n-requires : goal.write_type-field-n-requires
write_type-field-n-requires t c = (c.requires.0.tabled.whole.named.limited, omega arith)

pub write_type-loop-i-init : goal.write_type-loop-i-init
write_type-loop-i-init t c =
    let h = body_there _ _ _ _ c.requires.1 c.field-k.ensures c.kind_of-kind.ensures c.in-Fn.is in
    let v : Spells (write_ret (items_of _ _)) none (optional (type_at _ _) _ _) _ _ _ = elim c.if-b-eq1.branch [
      | write_type-then-b-eq1 w ↦ spells_met w.out-is w.here-is w.next-is
          (spells_gives _ _ _ _ h c.field-b.ensures _ w.if-b-eq1.true w.write_type-w-then-b-eq1.ensures)
      | write_type-else-b-eq1 w ↦ spells_met w.out-is w.here-is w.next-is
          (spells_void _ _ _ _ h c.field-b.ensures _ w.if-b-eq1.false w.put_bytes-here-else-b-eq1.ensures)
    ] in
    going_none _ _ _ _ _ _ _ (types_there _ _ _ _ h _ v c.field-n.ensures)

pub write_type-write_type-w-requires-in-loop-i : goal.write_type-write_type-w-requires-in-loop-i
write_type-write_type-w-requires-in-loop-i t c = (
  omega (arith, c.requires.0, level_left _ _ _ _ c.requires.1),
  (
    c.requires.0,
    going_there _ _ _ _ _ _
        (omega arith) c.loop-i.invariant,
  ),
)

pub write_type-loop-i-preserved : goal.write_type-loop-i-preserved
write_type-loop-i-preserved t c =
    going_turn _ _ _ _ _ _ (omega arith) c.loop-i.invariant c.put_when-here.ensures
    c.write_type-w-in-loop-i.ensures

pub write_type-returns-after-loop-i : goal.write_type-returns-after-loop-i
write_type-returns-after-loop-i t c =
    as_type _ _ _ _ c.requires.1 c.field-k.ensures c.kind_of-kind.ensures _ c.in-Fn.is (λ h.
    let v : Spells (write_ret (items_of _ _)) none (optional (type_at _ _) _ _) _ _ _ = elim c.if-b-eq1.branch [
      | write_type-then-b-eq1 w ↦ spells_met w.out-is w.here-is w.next-is
          (spells_gives _ _ _ _ h c.field-b.ensures _ w.if-b-eq1.true w.write_type-w-then-b-eq1.ensures)
      | write_type-else-b-eq1 w ↦ spells_met w.out-is w.here-is w.next-is
          (spells_void _ _ _ _ h c.field-b.ensures _ w.if-b-eq1.false w.put_bytes-here-else-b-eq1.ensures)
    ] in
    spells_fn _ _ _ _ h _ v c.field-n.ensures c.put_bytes-here.ensures c.put_bytes-here-in-Fn.ensures
    (going_done _ _ _ _ _ _ (omega arith) c.loop-i.invariant) c.put_bytes-end-in-Fn.ensures)

pub write_type-write_type-w-requires-in-Array : goal.write_type-write_type-w-requires-in-Array
write_type-write_type-w-requires-in-Array t c = (
  omega (arith, c.requires.0, level_left _ _ _ _ c.requires.1),
  (
    c.requires.0,
    array_there _ _ _ _ (body_there _ _
        _ _ c.requires.1 c.field-k.ensures c.kind_of-kind.ensures c.in-Array.is),
  ),
)

pub write_type-field-n-requires-in-Array : goal.write_type-field-n-requires-in-Array
write_type-field-n-requires-in-Array t c = (c.requires.0.tabled.whole.named.limited, omega arith)

pub write_type-returns-in-Array : goal.write_type-returns-in-Array
write_type-returns-in-Array t c =
    as_type _ _ _ _ c.requires.1 c.field-k.ensures c.kind_of-kind.ensures _ c.in-Array.is (λ h. spells_array _ _ _ _ h
    _ c.put_bytes-begin.ensures c.write_type-w-in-Array.ensures c.field-n-in-Array.ensures
    c.put_bytes-comma.ensures c.put_decimal-number.ensures c.put_bytes-end-in-Array.ensures)

pub write_type-returns-in-Bad : goal.write_type-returns-in-Bad
write_type-returns-in-Bad t c =
    absurd (not_bad _ _ _ _ c.requires.1 c.field-k.ensures c.kind_of-kind.ensures c.in-Bad.is)

pub write_type_space-write_type-w-requires : goal.write_type_space-write_type-w-requires
write_type_space-write_type-w-requires t c = (omega (arith, c.requires.0), (c.requires.0, c.requires.1))

pub write_type_space-returns : goal.write_type_space-returns
write_type_space-returns t c =
    as_space _ _ _ _ _ (kind_is _ _ _ _ c.requires.1 c.field-k.ensures c.kind_of-kind.ensures) c.write_type-w.ensures
    c.write_space_after_type-end.ensures
