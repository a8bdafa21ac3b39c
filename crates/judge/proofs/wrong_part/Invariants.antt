use mathlib.Core.Path.{◌≡◌}
use Prim.Native.Nat.{◌-◌}
use lib.ListN.{length}
use Rattle.rules.specs.Rules.{wrong_part}
use Rattle.view.specs.Values.{items_at}
use Rattle.marks.specs.Reading.{some_from}
use Rattle.judge.specs.Marked.{named_function}
use Rattle.judge.proofs.wrong_part.Given as goal

abbrev pub invariant-loop-i : goal.invariant-loop-i
invariant-loop-i l =
    wrong_part (items_at l.s l.names l.items) ≡ some_from (named_function l.s l.names
    l.items l.marks) l.i (length l.items - l.i)
