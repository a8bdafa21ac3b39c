use mathlib.Core.Path.{◌≡◌}
use Prim.Native.Nat.{◌-◌}
use Rattle.format.specs.Decode.{many}
use Rattle.format.specs.Decoding.{line}
use Rattle.cursor.specs.Checking.{step_of}
use Rattle.comments.proofs.check_lines.Given as goal

abbrev pub invariant-loop : goal.invariant-loop
invariant-loop l =
    step_of (many l.n line l.s l.initial.next.at) ≡ step_of (many (l.n - l.counter) line l.s l.next.at)
