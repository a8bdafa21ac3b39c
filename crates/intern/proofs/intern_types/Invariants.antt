use Prim.Native.Nat.{◌≤◌}
use Rattle.tables.specs.Tables.{Filled}
use Rattle.intern.proofs.intern_types.Given as goal

abbrev pub invariant-loop-i : goal.invariant-loop-i
invariant-loop-i l = (l.idle ≤ 8) × Filled l.s l.initial.t l.t l.pool l.end
