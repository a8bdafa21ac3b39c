use native.Mathlib.Omega.{arith}
use mathlib.Core.Path.{sym, ◌∙◌}
use Rattle.clash.specs.Clashes.{clashes}
use Rattle.clash.proofs.ListLaws.{pairs_turn, pairs_hit, pairs_end}
use Rattle.clash.proofs.clashing.Goals as goal

pub returns-then-clash_behind : goal.returns-then-clash_behind
returns-then-clash_behind c =
    sym (c.loop-i.invariant ∙ pairs_hit _ _ _ (omega arith) (clashes _) (rw c.item-v.ensures.0 at
    c.clash_behind.ensures) c.if-clash_behind.true)

pub loop-i-preserved : goal.loop-i-preserved
loop-i-preserved c =
    c.loop-i.invariant ∙ pairs_turn _ _ _ (omega arith) (clashes _) (rw c.item-v.ensures.0 at
    c.clash_behind.ensures) c.if-clash_behind.false

pub returns : goal.returns
returns c = sym (c.loop-i.invariant ∙ pairs_end _ _ _ (omega arith) (clashes _))
