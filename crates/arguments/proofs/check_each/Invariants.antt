use mathlib.Core.Path.{◌≡◌}
use Prim.Native.Nat.{◌≤◌}
use lib.ListN.{length}
use Rattle.format.specs.Limits.{most_bits}
use Rattle.arguments.proofs.ArgumentLaws.{Noting}
use Rattle.arguments.proofs.check_each.Given as goal

abbrev pub invariant-loop-i : goal.invariant-loop-i
invariant-loop-i l =
    (l.next ≤ most_bits) × (length l.numbers ≡ length l.initial.numbers) × (length l.keys ≡ length
    l.initial.keys) × (length l.marks ≡ length l.initial.marks) × Noting l.method l.throws l.s l.names l.items l.n
    l.at l.initial.marks l.i l.next l.numbers l.keys l.marks
