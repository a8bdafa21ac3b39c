-- `visit` and `visit_held` meet their contracts. The number that falls: the levels, and a bit for which of the two runs.
use native.Mathlib.Omega.{arith}
use mathlib.Core.Path.{◌≡◌, refl}
use lib.ListN.{get_or}
use Rattle.toposort.proofs.TableLaws.{visited_as, all_as, no_mark, room_marked, place_free, going_as, going_next, all_ring, all_done}
use Rattle.toposort.proofs.TableLaws.{visited_already, visited_ring, visited_deep, visited_below, visited_done}
use Rattle.toposort.proofs.TableLaws.{part_next, part_end, table_part, table_inside}
use Rattle.toposort.proofs.+visit_visit_held.Goals as goal

pub visit-returns-then-mark-gt1 : goal.visit-returns-then-mark-gt1
visit-returns-then-mark-gt1 t c =
    let r = c.requires.2 in
    visited_already (omega arith) (omega arith)

pub visit-returns-then-mark-eq1 : goal.visit-returns-then-mark-eq1
visit-returns-then-mark-eq1 t c = visited_ring c.if-mark-eq1.true

pub visit-returns-then-levels-eq0 : goal.visit-returns-then-levels-eq0
visit-returns-then-levels-eq0 t c =
    let a = c.args in
    let e : get_or a.marks.now a.i 0 ≡ 0 = no_mark _ (omega arith) c.if-mark-eq1.false in
    visited_deep e c.if-levels-eq0.true

pub visit-visit_held-requires : goal.visit-visit_held-requires
visit-visit_held-requires t c =
    let p = c.requires in
    let a = c.args in
    let e : get_or a.marks.now a.i 0 ≡ 0 = no_mark _ (omega arith) c.if-mark-eq1.false in
    (omega arith, (p.0, p.1, room_marked p.2 p.0 e))

pub visit-bounds-order-end : goal.visit-bounds-order-end
visit-bounds-order-end t c =
    let p = c.requires in
    let a = c.args in
    let e : get_or a.marks.now a.i 0 ≡ 0 = no_mark _ (omega arith) c.if-mark-eq1.false in
    place_free p.1.within p.2 p.0 e (all_as c.in_ok-end.was c.visit_held.ensures)

pub visit-returns-in_err-end : goal.visit-returns-in_err-end
visit-returns-in_err-end t c =
    let a = c.args in
    let e : get_or a.marks.now a.i 0 ≡ 0 = no_mark _ (omega arith) c.if-mark-eq1.false in
    visited_below e c.if-levels-eq0.false c.from_residual.ensures.1 (all_as c.in_err-end.was c.visit_held.ensures)

pub visit-returns : goal.visit-returns
visit-returns t c =
    let p = c.requires in
    let a = c.args in
    let e : get_or a.marks.now a.i 0 ≡ 0 = no_mark _ (omega arith) c.if-mark-eq1.false in
    let inner = all_as c.in_ok-end.was c.visit_held.ensures in
    visited_done e c.if-levels-eq0.false p.2.order inner (place_free p.1.within p.2 p.0 e inner)

pub visit_held-loop-k-init : goal.visit_held-loop-k-init
visit_held-loop-k-init t c =
    let p = c.requires in
    let a = c.args in
    let from = c.from-k.ensures in
    let to = c.from-stop.ensures in (
      table_inside a.starts.now a.held.now a.i from to p.1 p.0,
      going_as (table_part a.starts.now a.held.now a.i from to) record { left = refl; room = p.2 },
    )

pub visit_held-bounds-held-k : goal.visit_held-bounds-held-k
visit_held-bounds-held-k t c =
    let p = c.requires in
    let v = c.loop-k.invariant in
    omega (arith, p.1.size)

pub visit_held-bounds-marks-j : goal.visit_held-bounds-marks-j
visit_held-bounds-marks-j t c =
    let room = c.loop-k.invariant.1.room in
    omega arith

pub visit_held-visit-requires : goal.visit_held-visit-requires
visit_held-visit-requires t c = (omega arith, (omega arith, c.requires.1, c.loop-k.invariant.1.room))

pub visit_held-returns-in_err-end : goal.visit_held-returns-in_err-end
visit_held-returns-in_err-end t c =
    let v = c.loop-k.invariant in
    let now = going_as (part_next _ _ _ c.loop-k-test.true v.0 c.from-j.ensures) v.1 in
    all_ring c.requires.2.order c.from_residual.ensures.1 now (visited_as c.in_err-end.was c.visit.ensures)

pub visit_held-loop-k-preserved-then-marks-j-gt1 : goal.visit_held-loop-k-preserved-then-marks-j-gt1
visit_held-loop-k-preserved-then-marks-j-gt1 t c =
    let v = c.loop-k.invariant in
    let within = c.requires.1.within in
    let now = going_as (part_next _ _ _ c.loop-k-test.true v.0 c.from-j.ensures) v.1 in
    let room = now.room in
    (v.0, going_next within (omega arith) now (visited_already c.if-marks-j-gt1.true (omega arith)))

pub visit_held-loop-k-preserved : goal.visit_held-loop-k-preserved
visit_held-loop-k-preserved t c =
    let v = c.loop-k.invariant in
    let within = c.requires.1.within in
    let now = going_as (part_next _ _ _ c.loop-k-test.true v.0 c.from-j.ensures) v.1 in
    (v.0, going_next within (omega arith) now (visited_as c.in_ok-end.was c.visit.ensures))

pub visit_held-returns : goal.visit_held-returns
visit_held-returns t c =
    all_done c.requires.2.order (going_as (part_end _ _ _ c.loop-k-test.false) c.loop-k.invariant.1)
