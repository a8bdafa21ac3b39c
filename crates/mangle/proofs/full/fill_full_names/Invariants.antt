use mathlib.Core.Path.{◌≡◌}
use lib.ListN.{length}
use Rattle.tables.specs.Tables.{Filled}
use Rattle.mangle.proofs.full.fill_full_names.Given as goal

abbrev pub invariant-loop-i : goal.invariant-loop-i
invariant-loop-i l = (length l.text ≡ 520) × Filled l.s l.initial.t l.t l.pool l.end
