use mathlib.Core.Path.{sym}
use native.Mathlib.Omega.{arith}
use lib.Seq.{length-take-le}
use Rattle.cursor.proofs.FieldLaws.{value, cut, field_lt}
use Rattle.decode.proofs.SheetLaws.{tables_cut, tables_fault, names_ready, tables_rest}
use Rattle.decode.proofs.decode_tables.Goals as goal

pub check_names-requires : goal.check_names-requires
check_names-requires c = omega (arith, field_lt 10 _ _ (value c.read.ensures c.in_ok-count.was), c.requires)

pub slice_bounds-decode_items-end : goal.slice_bounds-decode_items-end
slice_bounds-decode_items-end c = omega (arith, field_lt 10 _ _ (value c.read.ensures c.in_ok-count.was), c.requires)

pub slice_bounds-decode_items-end-2 : goal.slice_bounds-decode_items-end-2
slice_bounds-decode_items-end-2 c =
    sym (length-take-le _ _ (omega (arith, field_lt 10 _ _ (value c.read.ensures c.in_ok-count.was), c.requires)))

pub slice_bounds-decode_items-end-3 : goal.slice_bounds-decode_items-end-3
slice_bounds-decode_items-end-3 c =
    omega (arith, field_lt 10 _ _ (value c.read.ensures c.in_ok-count.was), c.requires)

pub slice_bounds-decode_items-end-4 : goal.slice_bounds-decode_items-end-4
slice_bounds-decode_items-end-4 c =
    sym (length-take-le _ _ (omega (arith, field_lt 10 _ _ (value c.read.ensures c.in_ok-count.was), c.requires)))

pub decode_items-requires : goal.decode_items-requires
decode_items-requires c =
    let l = names_ready c.args.edition _ _ _ _ (value c.read.ensures c.in_ok-count.was) c.check_names.ensures
    c.in_ok-next.was c.requires.0 (omega (
      arith,
      field_lt 10 _ _ (value c.read.ensures c.in_ok-count.was),
      c.requires,
    )) in
    (l.0, l.1, omega (arith, c.requires))

pub returns-in_err-count : goal.returns-in_err-count
returns-in_err-count c = tables_cut _ _ _ _ _ c.from_residual.ensures.1 (cut c.read.ensures c.in_err-count.was)

pub returns-in_err-next : goal.returns-in_err-next
returns-in_err-next c =
    tables_fault _ _ _ _ _ (value c.read.ensures c.in_ok-count.was) c.check_names.ensures
    c.from_residual-in_err-next.ensures.1 c.in_err-next.was

pub returns : goal.returns
returns c =
    tables_rest _ _ _ _ _ (value c.read.ensures c.in_ok-count.was) c.check_names.ensures c.in_ok-next.was
    (omega (arith, field_lt 10 _ _ (value c.read.ensures c.in_ok-count.was), c.requires))
    c.decode_items.ensures
