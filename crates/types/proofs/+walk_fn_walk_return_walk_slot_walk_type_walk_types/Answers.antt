use Prim.Native.Nat.{◌+◌, ◌-◌}
use native.Mathlib.Omega.{arith}
use mathlib.Core.Path.{refl, ◌∙◌}
use Rattle.format.specs.Decoding.{type_at}
use Rattle.cursor.proofs.FieldLaws.{bit_checks}
use Rattle.cursor.proofs.WidthLaws.{width_le}
use Rattle.cursor.proofs.CheckLaws.{stepped}
use Rattle.cursor.proofs.CodeLaws.{at_in, fault_in, cut_in, bad_in, bits_cut, bits_whole}
use Rattle.marks.specs.Marking.{mark_ty}
use Rattle.marks.proofs.GatherLaws.{moved, halted, stays, stays_checks, refused, fold_turn, fold_stop, fold_done}
use Rattle.types.proofs.TypeLaws.{type_cut, type_deep}
use Rattle.types.proofs.MarkLaws.{atom_marks, named_marks, template_marks, pointer_marks, str_marks}
use Rattle.types.proofs.MarkLaws.{array_marks, result_marks, result_none, result_cut}
use Rattle.types.proofs.MarkLaws.{fn_cut, fn_marks, body_marks, name_slot, index_loose, index_marked}
use Rattle.types.proofs.+walk_fn_walk_return_walk_slot_walk_type_walk_types.Goals as goal

pub walk_fn-returns-then-r-gt-LAST : goal.walk_fn-returns-then-r-gt-LAST
walk_fn-returns-then-r-gt-LAST t c = stays _ c.walk_return-r.ensures c.if-r-gt-LAST.true

pub walk_fn-returns-then-end_of-first : goal.walk_fn-returns-then-end_of-first
walk_fn-returns-then-end_of-first t c =
    fn_cut c.args.items c.args.left c.args.s.now c.args.at (moved c.walk_return-r.ensures
    (at_in c.if-r-gt-LAST.false)).1 (bits_cut _ _ _ (omega arith))

pub walk_fn-returns : goal.walk_fn-returns
walk_fn-returns t c =
    let m = moved c.walk_return-r.ensures (at_in c.if-r-gt-LAST.false) in
    fn_marks c.args.items c.args.left c.args.s.now c.args.at m.1 m.2 (bits_whole _ _ _ (omega arith)
    c.extract-n.ensures) c.walk_types.ensures

pub walk_return-returns-then-end_of-next : goal.walk_return-returns-then-end_of-next
walk_return-returns-then-end_of-next t c =
    result_cut c.args.items c.args.left c.args.s.now c.args.at (bits_cut _ _ _ (omega arith))

pub walk_return-returns-then-extract-eq1 : goal.walk_return-returns-then-extract-eq1
walk_return-returns-then-extract-eq1 t c =
    result_marks c.args.items c.args.left c.args.s.now c.args.at (bits_whole _ _ _ (omega arith) c.extract.ensures)
    c.if-extract-eq1.true c.walk_type.ensures

pub walk_return-returns : goal.walk_return-returns
walk_return-returns t c =
    result_none c.args.items c.args.left c.args.s.now c.args.at (bits_whole _ _ _ (omega arith) c.extract.ensures)
    c.if-extract-eq1.false (omega arith)

pub walk_slot-overflow_add-end : goal.walk_slot-overflow_add-end
walk_slot-overflow_add-end t c = omega (arith, width_le _ c.width-w.ensures)

pub walk_slot-extract-i-requires : goal.walk_slot-extract-i-requires
walk_slot-extract-i-requires t c = (omega arith, width_le _ c.width-w.ensures, omega arith)

pub walk_slot-returns-then-items-i : goal.walk_slot-returns-then-items-i
walk_slot-returns-then-items-i t c =
    name_slot c.args.items c.args.left c.args.s.now c.args.at (bits_whole _ _ _ (omega arith) c.extract.ensures)
    c.if-extract-ne1.false c.if-left-eq0.false (index_loose _ _ _ c.width-w.ensures (bits_whole _ _ _
    (omega arith) c.extract-i.ensures) c.if-items-i.true)

pub walk_slot-returns : goal.walk_slot-returns
walk_slot-returns t c =
    name_slot c.args.items c.args.left c.args.s.now c.args.at (bits_whole _ _ _ (omega arith) c.extract.ensures)
    c.if-extract-ne1.false c.if-left-eq0.false (index_marked _ _ _ c.width-w.ensures (bits_whole _ _ _
    (omega arith) c.extract-i.ensures) (omega arith) (omega arith) c.set_mark.ensures)

pub walk_type-returns-then-end_of-body : goal.walk_type-returns-then-end_of-body
walk_type-returns-then-end_of-body t c = rw (cut_in) (refused (type_cut _ _ _ _ (bits_cut _ _ _ (omega arith))))

pub walk_type-returns-then-left-eq0 : goal.walk_type-returns-then-left-eq0
walk_type-returns-then-left-eq0 t c =
    rw (c.too_deep.ensures, c.kind_of-kind.ensures) (refused (type_deep _ _ _ _ (bits_whole _ _ _ (omega arith)
    c.extract.ensures) c.if-left-eq0.true))

pub walk_type-returns-then-r-gt-LAST : goal.walk_type-returns-then-r-gt-LAST
walk_type-returns-then-r-gt-LAST t c =
    body_marks _ _ _ _ (bits_whole _ _ _ (omega arith) c.extract.ensures) c.if-left-eq0.false c.kind_of-kind.ensures
    (rw c.in-Pointer.is (stays_checks _ (bit_checks _ _ c.pass-r.ensures) c.if-r-gt-LAST.true))

pub walk_type-returns-then-r-gt-LAST-2 : goal.walk_type-returns-then-r-gt-LAST-2
walk_type-returns-then-r-gt-LAST-2 t c =
    body_marks _ _ _ _ (bits_whole _ _ _ (omega arith) c.extract.ensures) c.if-left-eq0.false c.kind_of-kind.ensures
    (rw c.in-Array.is (stays _ c.walk_type-r.ensures c.if-r-gt-LAST-2.true))

pub walk_type-returns-in-Atom : goal.walk_type-returns-in-Atom
walk_type-returns-in-Atom t c =
    body_marks _ _ _ _ (bits_whole _ _ _ (omega arith) c.extract.ensures) c.if-left-eq0.false c.kind_of-kind.ensures
    (rw c.in-Atom.is (atom_marks c.args.items (c.args.left - 1) c.args.s.now (c.args.at + 4) c.pass.ensures))

pub walk_type-returns-in-Named : goal.walk_type-returns-in-Named
walk_type-returns-in-Named t c =
    body_marks _ _ _ _ (bits_whole _ _ _ (omega arith) c.extract.ensures) c.if-left-eq0.false c.kind_of-kind.ensures
    (rw c.in-Named.is (named_marks c.args.items (c.args.left - 1) c.args.s.now (c.args.at + 4)
    c.walk_index.ensures))

pub walk_type-returns-in-Template : goal.walk_type-returns-in-Template
walk_type-returns-in-Template t c =
    body_marks _ _ _ _ (bits_whole _ _ _ (omega arith) c.extract.ensures) c.if-left-eq0.false c.kind_of-kind.ensures
    (rw c.in-Template.is (template_marks c.args.items (c.args.left - 1) c.args.s.now (c.args.at + 4) _
    c.walk_type.ensures))

pub walk_type-returns-else-r-gt-LAST : goal.walk_type-returns-else-r-gt-LAST
walk_type-returns-else-r-gt-LAST t c =
    body_marks _ _ _ _ (bits_whole _ _ _ (omega arith) c.extract.ensures) c.if-left-eq0.false c.kind_of-kind.ensures
    (rw c.in-Pointer.is (pointer_marks c.args.items (c.args.left - 1) c.args.s.now (c.args.at + 4) _
    (stepped (bit_checks _ _ c.pass-r.ensures) (at_in c.if-r-gt-LAST.false)).1 c.walk_type-in-Pointer.ensures))

pub walk_type-returns-in-Str : goal.walk_type-returns-in-Str
walk_type-returns-in-Str t c =
    body_marks _ _ _ _ (bits_whole _ _ _ (omega arith) c.extract.ensures) c.if-left-eq0.false c.kind_of-kind.ensures
    (rw c.in-Str.is (str_marks c.args.items (c.args.left - 1) c.args.s.now (c.args.at + 4) (omega arith)))

pub walk_type-returns-in-Fn : goal.walk_type-returns-in-Fn
walk_type-returns-in-Fn t c =
    body_marks _ _ _ _ (bits_whole _ _ _ (omega arith) c.extract.ensures) c.if-left-eq0.false c.kind_of-kind.ensures
    (rw c.in-Fn.is c.walk_fn.ensures)

pub walk_type-returns-else-r-gt-LAST-2 : goal.walk_type-returns-else-r-gt-LAST-2
walk_type-returns-else-r-gt-LAST-2 t c =
    let m = moved c.walk_type-r.ensures (at_in c.if-r-gt-LAST-2.false) in
    body_marks _ _ _ _ (bits_whole _ _ _ (omega arith) c.extract.ensures) c.if-left-eq0.false c.kind_of-kind.ensures
    (rw c.in-Array.is (array_marks c.args.items (c.args.left - 1) c.args.s.now (c.args.at + 4) m.1 m.2
    c.pass-in-Array.ensures))

pub walk_type-returns-in-Bad : goal.walk_type-returns-in-Bad
walk_type-returns-in-Bad t c =
    body_marks _ _ _ _ (bits_whole _ _ _ (omega arith) c.extract.ensures) c.if-left-eq0.false c.kind_of-kind.ensures
    (rw (c.in-Bad.is, bad_in) record { gathered = refl })

pub walk_types-returns-then-r-gt-LAST : goal.walk_types-returns-then-r-gt-LAST
walk_types-returns-then-r-gt-LAST t c =
    rw (fault_in c.if-r-gt-LAST.true) record {
      gathered = c.loop.invariant.2 ∙ fold_stop mark_ty (type_at _ _) _ _ _
          _ (omega arith) (halted c.walk_slot-r.ensures (fault_in c.if-r-gt-LAST.true));
    }

pub walk_types-loop-preserved : goal.walk_types-loop-preserved
walk_types-loop-preserved t c =
    let m = moved c.walk_slot-r.ensures (at_in c.if-r-gt-LAST.false) in (
      omega arith,
      omega arith,
      c.loop.invariant.2 ∙ fold_turn mark_ty (type_at _ _) _ _ _ (omega arith) m.1 m.2,
    )

pub walk_types-returns : goal.walk_types-returns
walk_types-returns t c =
    rw (at_in c.loop.invariant.0) record {
      gathered = c.loop.invariant.2 ∙ fold_done mark_ty (type_at _ _) _ _ _ _ _ (omega arith);
    }
