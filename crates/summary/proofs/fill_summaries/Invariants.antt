use Rattle.std.proofs.Common.{◌≡◌, length}
use Rattle.summary.specs.Summaries.{Keeping}
use Rattle.summary.proofs.fill_summaries.Given as goal

abbrev pub invariant-loop-i : goal.invariant-loop-i
invariant-loop-i l = (length l.kept ≡ length l.initial.kept) × Keeping l.s l.t l.i l.end l.kept
