use mathlib.Core.Path.{◌≡◌}
use lib.ListN.{length}
use Rattle.view.proofs.ArgumentLaws as laws
use Rattle.tables.specs.Tables.{names_in, items_in}
use Rattle.tables.proofs.fill_arguments.Given as goal

abbrev pub invariant-loop-j : goal.invariant-loop-j
invariant-loop-j l =
    (length l.offsets ≡ length l.initial.offsets) × laws.Arguments l.s (names_in l.t)
    (items_in l.t) l.fn.v l.j l.offsets l.next.at
