use native.Mathlib.Omega.{arith}
use mathlib.Core.Path.{sym, ◌∙◌}
use Rattle.format.specs.Decoding.{line}
use Rattle.cursor.proofs.CheckLaws.{ended, stepped, stopped, many_turn, many_stop, many_done}
use Rattle.comments.proofs.check_lines.Goals as goal

pub returns-in_err-next : goal.returns-in_err-next
returns-in_err-next c =
    ended c.from_residual.ensures.1
    (c.loop.invariant ∙ many_stop line _ _ _ (omega arith) (stopped c.check_line.ensures c.in_err-next.was))

pub loop-preserved : goal.loop-preserved
loop-preserved c =
    c.loop.invariant ∙ many_turn line _ _ _ (omega arith) (stepped c.check_line.ensures c.in_ok-next.was).1

pub returns : goal.returns
returns c = record { step = sym (c.loop.invariant ∙ many_done line _ _ _ _ (omega arith)) }
