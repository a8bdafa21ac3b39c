use mathlib.Core.Path.{◌≡◌}
use Prim.Native.Nat.{◌≤◌, ◌%◌, ◌/◌, ◌^◌}
use Rattle.lexical.specs.Bytes.{chars_in}
use Rattle.words.specs.Walking.{walk_shape}
use Rattle.walk.proofs.walk_shape.Given as goal

abbrev pub invariant-loop-low : goal.invariant-loop-low
invariant-loop-low l =
    (l.low ≤ l.bits) × (l.low % 7 ≡ 0) × (l.rest ≡ l.x % 2 ^ l.low) × (walk_shape l.initial.q (chars_in (l.bits / 7)
    l.x) ≡ walk_shape l.q (chars_in (l.low / 7) l.rest))

abbrev pub decreases-loop-low : goal.decreases-loop-low
decreases-loop-low l = l.low
