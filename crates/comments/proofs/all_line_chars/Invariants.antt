use mathlib.Core.Path.{◌≡◌}
use Prim.Native.Nat.{◌+◌, ◌*◌}
use Rattle.comments.proofs.LineLaws.{line_chars}
use Rattle.comments.proofs.all_line_chars.Given as goal

abbrev pub invariant-loop-left : goal.invariant-loop-left
invariant-loop-left l =
    (l.next + 7 * l.left ≡ l.at + 7 * l.n) × (line_chars l.s l.at l.n ≡ line_chars l.s l.next l.left)

abbrev pub decreases-loop-left : goal.decreases-loop-left
decreases-loop-left l = l.left
