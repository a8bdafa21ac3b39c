use mathlib.Core.Path.{◌≡◌}
use lib.ListN.{drop}
use Rattle.rules.specs.Rules.{twice}
use Rattle.view.specs.Values.{items_at}
use Rattle.clash.specs.Clashes.{clashes}
use Rattle.clash.proofs.clashing.Given as goal

abbrev pub invariant-loop-i : goal.invariant-loop-i
invariant-loop-i l =
    twice (clashes (items_at l.s l.names l.items)) (items_at l.s l.names l.items) ≡ twice
    (clashes (items_at l.s l.names l.items)) (drop l.i (items_at l.s l.names l.items))
