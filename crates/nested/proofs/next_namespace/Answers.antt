use native.Mathlib.Omega.{arith}
use mathlib.Core.Path.{refl}
use Rattle.nested.proofs.ViewLaws.{next_turn, next_found, next_end_lem}
use Rattle.nested.proofs.next_namespace.Goals as goal

pub returns-then-opens : goal.returns-then-opens
returns-then-opens c =
    next_found _ _ _ _ _ _ (omega arith) c.opens.ensures c.loop-i.invariant.1 (omega arith) c.if-opens.true

pub loop-i-preserved : goal.loop-i-preserved
loop-i-preserved c = (
  omega arith,
  next_turn _ _ _ _ _ _ (omega arith) c.opens.ensures c.loop-i.invariant.1
      c.if-opens.false,
)

pub returns : goal.returns
returns c = next_end_lem _ _ _ _ _ _ c.loop-i.i refl (omega arith) (omega arith) (omega arith) c.loop-i.invariant.1
