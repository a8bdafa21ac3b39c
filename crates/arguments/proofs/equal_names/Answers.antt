use native.Mathlib.Omega.{arith}
use mathlib.Core.Path.{sym, ◌∙◌}
use Rattle.arguments.proofs.PairLaws.{pair_turn, pair_hit, row_end, rows_end}
use Rattle.arguments.proofs.equal_names.Goals as goal

pub loop-j-preserved : goal.loop-j-preserved
loop-j-preserved c = (
  c.if-found.false,
  c.loop-j.invariant.1 ∙ pair_turn _ _ _ (omega arith) (omega arith) c.same_name-found.ensures c.if-found.false,
)

pub pairs-preserved : goal.pairs-preserved
pairs-preserved c = (
  c.loop-j.invariant.0,
  c.pairs.invariant.1 ∙ row_end _ _ _ (omega arith) (omega arith) c.loop-j.invariant.1,
)

pub returns-after-pairs : goal.returns-after-pairs
returns-after-pairs c =
    c.pairs.invariant.0 ∙ sym (c.pairs.invariant.1 ∙ rows_end _ _ _ {i = c.pairs.i} (omega arith))

pub returns-then-found : goal.returns-then-found
returns-then-found c =
    c.if-found.true ∙ sym (c.pairs.invariant.1 ∙ pair_hit _ _ _ (omega arith) (omega arith)
    c.same_name-found.ensures c.if-found.true c.loop-j.invariant.1)
