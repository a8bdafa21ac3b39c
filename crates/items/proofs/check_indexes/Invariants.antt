use mathlib.Core.Path.{◌≡◌}
use Prim.Native.Nat.{◌-◌}
use Rattle.format.specs.Decode.{many}
use Rattle.cursor.specs.Checking.{step_of}
use Rattle.format.specs.Bits.{index}
use Rattle.items.proofs.check_indexes.Given as goal

abbrev pub invariant-loop : goal.invariant-loop
invariant-loop l =
    step_of (many l.n (index l.names) l.s l.initial.next.at) ≡
    step_of (many (l.n - l.counter) (index l.names) l.s l.next.at)
