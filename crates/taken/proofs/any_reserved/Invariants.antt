use mathlib.Core.Path.{◌≡◌}
use lib.ListN.{drop}
use Rattle.rules.specs.Rules.{any, reserved_namespace}
use Rattle.view.specs.Values.{items_at}
use Rattle.taken.proofs.any_reserved.Given as goal

abbrev pub invariant-loop-i : goal.invariant-loop-i
invariant-loop-i l =
    any (λ x. reserved_namespace x.namespace) (items_at l.s l.names l.items) ≡ any
    (λ x. reserved_namespace x.namespace) (drop l.i (items_at l.s l.names l.items))
