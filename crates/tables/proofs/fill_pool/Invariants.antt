use Prim.Native.Nat.{◌≤◌}
use mathlib.Core.Path.{◌≡◌}
use lib.ListN.{length}
use Rattle.tables.specs.Tables.{Filled}
use Rattle.tables.proofs.fill_pool.Given as goal

abbrev pub invariant-loop-i : goal.invariant-loop-i
invariant-loop-i l =
    (l.end ≤ 12000) × (length l.pool ≡ length l.initial.pool) × Filled l.s l.initial.t l.t l.pool l.end
