use native.Mathlib.Omega.{arith}
use mathlib.Core.Path.{sym, ◌∙◌}
use Rattle.cursor.proofs.CheckLaws.{ended, stepped, stopped, many_turn, many_stop, many_done}
use Rattle.format.specs.Bits.{index}
use Rattle.items.proofs.check_indexes.Goals as goal

pub returns-in_err-next : goal.returns-in_err-next
returns-in_err-next c =
    ended c.from_residual.ensures.1
    (c.loop.invariant ∙ many_stop (index _) _ _ _ (omega arith) (stopped c.check_index.ensures c.in_err-next.was))

pub loop-preserved : goal.loop-preserved
loop-preserved c =
    c.loop.invariant ∙ many_turn (index _) _ _ _ (omega arith) (stepped c.check_index.ensures c.in_ok-next.was).1

pub returns : goal.returns
returns c = record { step = sym (c.loop.invariant ∙ many_done (index _) _ _ _ _ (omega arith)) }
