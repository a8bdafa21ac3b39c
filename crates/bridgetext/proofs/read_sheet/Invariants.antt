use Rattle.std.proofs.Common.{length, ◌-◌, ◌≤◌}
use Rattle.bridgetext.proofs.read_sheet.Given as goal

abbrev pub invariant-loop-n : goal.invariant-loop-n
invariant-loop-n g l = l.n ≤ length l.sheet

abbrev pub decreases-loop-n : goal.decreases-loop-n
decreases-loop-n g l = length l.initial.sheet - l.n
