use lib.ListN.{drop}
use Rattle.toposort.specs.Sort.{sort}
use Rattle.toposort.specs.Adjacency.{item_numbers, graph_of}
use Rattle.toposort.proofs.TableLaws.{Going}
use Rattle.toposort.proofs.sort.Given as goal

abbrev pub invariant-loop-j : goal.invariant-loop-j
invariant-loop-j l =
    Going (graph_of l.starts l.held) item_numbers (sort (graph_of l.starts l.held) item_numbers l.js)
    (drop l.j-index l.js) l.marks l.order l.end
