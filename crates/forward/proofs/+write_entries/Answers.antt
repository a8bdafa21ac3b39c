use native.Mathlib.Omega.{arith}
use Rattle.nested.proofs.ViewLaws.{count}
use Rattle.forward.proofs.EntryLaws.{spaces_begin, spaces_turn, entries_end, entries_last, view_deep, view_first}
use Rattle.tables.proofs.TableLaws.{items_count_lem}
use Rattle.forward.proofs.+write_entries.Goals as goal

pub returns-then-depth : goal.returns-then-depth
returns-then-depth t c = entries_last _ _ _ c.if-depth.true c.write_direct-direct.ensures

pub loop-i-init : goal.loop-i-init
loop-i-init t c = (
  c.next_namespace-i.ensures.most,
  c.next_namespace-i.ensures.found,
  spaces_begin _ _ _ c.requires.4
      c.next_namespace-i.ensures,
)

pub item-v-requires : goal.item-v-requires
item-v-requires t c = (c.requires.0.tabled, omega (arith, items_count_lem c.requires.0.tabled))

pub open_namespace-head-requires : goal.open_namespace-head-requires
open_namespace-head-requires t c = (
  c.requires.0,
  c.item-v.ensures.1,
  view_deep _ _ c.item-v.ensures.1 c.item-v.ensures.0
      (omega (arith, items_count_lem c.requires.0.tabled)) (c.loop-i.invariant.1
      (rw count (omega (arith, items_count_lem c.requires.0.tabled)))),
)

pub write_entries-tail-requires : goal.write_entries-tail-requires
write_entries-tail-requires t c = (
  omega (arith, items_count_lem c.requires.0.tabled, c.requires.0, c.requires.3, c.if-depth.false),
  (
    c.requires.0,
    c.requires.1,
    c.item-v.ensures.1,
    omega (
      arith,
      items_count_lem c.requires.0.tabled,
      c.requires.3,
      c.if-depth.false,
    ),
    view_first _ _ c.item-v.ensures.1 c.item-v.ensures.0 (omega (
      arith,
      items_count_lem
          c.requires.0.tabled,
    )) (c.loop-i.invariant.1 (rw count (omega (arith, items_count_lem c.requires.0.tabled)))),
  ),
)

pub loop-i-preserved : goal.loop-i-preserved
loop-i-preserved t c = (
  c.next_namespace-i-in-loop-i.ensures.most,
  c.next_namespace-i-in-loop-i.ensures.found,
  spaces_turn _ _ _
      c.item-v.ensures.0 (rw count (omega (arith, items_count_lem c.requires.0.tabled))) (c.loop-i.invariant.1
      (rw count (omega (arith, items_count_lem c.requires.0.tabled)))) c.loop-i.invariant.2
      c.open_namespace-head.ensures c.write_entries-tail.ensures c.close_namespace-here.ensures
      c.next_namespace-i-in-loop-i.ensures,
)

pub returns : goal.returns
returns t c =
    entries_end _ _ _ (omega (arith, items_count_lem c.requires.0.tabled)) (rw count (omega (
      arith,
      items_count_lem
          c.requires.0.tabled,
    ))) c.write_direct-direct.ensures c.loop-i.invariant.2
