use mathlib.Core.Path.{◌≡◌}
use lib.ListN.{length}
use Rattle.marks.proofs.KeyLaws.{Apart}
use Rattle.marks.proofs.repeats_in.Given as goal

abbrev pub invariant-loop-i : goal.invariant-loop-i
invariant-loop-i l = (length l.seen ≡ 256) × Apart l.keys l.seen l.i
