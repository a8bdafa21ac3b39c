use native.Mathlib.Omega.{arith}
use mathlib.Core.Path.{sym, ◌∙◌}
use Rattle.clash.specs.Clashes.{clashes}
use Rattle.clash.proofs.ListLaws.{items_turn, items_hit, items_end}
use Rattle.clash.proofs.clash_behind.Goals as goal

pub returns-then-clash : goal.returns-then-clash
returns-then-clash c =
    sym (c.loop-j.invariant ∙ items_hit _ _ _ (omega arith) (clashes _ _) c.clash.ensures c.if-clash.true)

pub loop-j-preserved : goal.loop-j-preserved
loop-j-preserved c =
    c.loop-j.invariant ∙ items_turn _ _ _ (omega arith) (clashes _ _) c.clash.ensures
    c.if-clash.false

pub returns : goal.returns
returns c = sym (c.loop-j.invariant ∙ items_end _ _ _ (omega arith) (clashes _ _))
