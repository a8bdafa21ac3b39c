use lib.ListN.{length}
use Rattle.tables.specs.Tables.{Filled}
use Rattle.intern.proofs.InternLaws.{Entries}
use Rattle.intern.proofs.intern_arguments.Given as goal

abbrev pub invariant-loop-entry : goal.invariant-loop-entry
invariant-loop-entry l = Entries l.s l.initial.t (length l.entry-items) l.entry-items × Filled l.s l.initial.t l.t l.pool l.end
