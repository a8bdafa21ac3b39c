use Prim.Native.Nat.{◌+◌, ◌≤◌, ◌-◌}
use Rattle.sink.specs.Copying.{Copied}
use Rattle.sink.proofs.copy.Given as goal

abbrev pub invariant-loop-i : goal.invariant-loop-i
invariant-loop-i l = (l.i ≤ l.last + 8) × Copied l.text l.i l.buf

abbrev pub decreases-loop-i : goal.decreases-loop-i
decreases-loop-i l = l.last + 8 - l.i
