use mathlib.Core.Path.{◌≡◌}
use Prim.Native.Nat.{◌-◌}
use lib.ListN.{length}
use Rattle.rules.specs.Rules.{unfit_argument}
use Rattle.view.specs.Values.{items_at}
use Rattle.marks.specs.Reading.{some_from}
use Rattle.judge.specs.Marked.{indirect_error}
use Rattle.judge.proofs.unfit_argument.Given as goal

abbrev pub invariant-loop-i : goal.invariant-loop-i
invariant-loop-i l =
    unfit_argument (items_at l.s l.names l.items) ≡ some_from (indirect_error l.s l.names
    l.items l.marks) l.i (length l.items - l.i)
