-- `sort` meets its contract. The invariant: what is left of js goes on to the whole sort.
use native.Mathlib.Omega.{arith}
use lib.ListN.{drop_of_length-le}
use Rattle.toposort.proofs.TableLaws.{visited_as, going_as, going_next, sorted_ring, sorted_done, sort_start, list_next}
use Rattle.toposort.proofs.sort.Goals as goal

pub loop-j-init : goal.loop-j-init
loop-j-init c = let p = c.requires in sort_start p.1 p.2

pub visit-requires : goal.visit-requires
visit-requires c = (omega arith, c.requires.0, c.loop-j.invariant.room)

pub returns-in_err-end : goal.returns-in_err-end
returns-in_err-end c =
    let now = going_as (list_next _ _ c.loop-j-test.true c.from.ensures) c.loop-j.invariant in
    sorted_ring c.from_residual.ensures.1 now (visited_as c.in_err-end.was c.visit.ensures)

pub loop-j-preserved : goal.loop-j-preserved
loop-j-preserved c =
    let within = c.requires.0.within in
    let now = going_as (list_next _ _ c.loop-j-test.true c.from.ensures) c.loop-j.invariant in
    going_next within (omega arith) now (visited_as c.in_ok-end.was c.visit.ensures)

pub returns : goal.returns
returns c = sorted_done (going_as (drop_of_length-le _ c.loop-j-test.false) c.loop-j.invariant)
