use Prim.Native.Nat.{◌+◌, ◌-◌, ◌*◌, ◌≤◌}
use lib.ListN.{length, take, drop}
use Rattle.toposort.specs.Sort.{visit_all, visit as visit·spec}
use Rattle.toposort.specs.Adjacency.{graph_of}
use Rattle.toposort.proofs.TableLaws.{Going}
use Rattle.toposort.proofs.+visit_visit_held.Given as goal

abbrev pub decreases-visit : goal.decreases-visit
decreases-visit l = 2 * l.levels

abbrev pub decreases-visit_held : goal.decreases-visit_held
decreases-visit_held l = 2 * l.levels + 1

abbrev pub invariant-visit_held-loop-k : goal.invariant-visit_held-loop-k
invariant-visit_held-loop-k l = (l.stop ≤ length l.held) × Going (graph_of l.starts l.held) l.levels
    (visit_all (visit·spec (graph_of l.starts l.held) l.levels) (graph_of l.starts l.held l.i) l.initial.marks
    (take l.at l.initial.order))
    (take (l.stop - l.k) (drop l.k l.held)) l.marks l.order l.end

abbrev pub decreases-visit_held-loop-k : goal.decreases-visit_held-loop-k
decreases-visit_held-loop-k l = l.stop - l.k
