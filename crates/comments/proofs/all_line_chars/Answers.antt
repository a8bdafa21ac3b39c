use borrow.Author.Tests.{not-true, not-false}
use native.Mathlib.Omega.{arith}
use mathlib.Core.Bool.{true, false}
use mathlib.Core.Path.{refl, sym, ◌∙◌}
use Rattle.lexical.proofs.BoolLaws.{known}
use Rattle.comments.proofs.LineLaws.{line_turn}
use mathlib.Core.Path.{ap}
use mathlib.Core.Bool.{not}
use Rattle.comments.proofs.all_line_chars.Goals as goal

pub loop-left-init : goal.loop-left-init
loop-left-init c = (omega arith, refl)

pub returns-then-not-few_line_chars : goal.returns-then-not-few_line_chars
returns-then-not-few_line_chars c =
    sym (c.loop-left.invariant.1 ∙ line_turn _ _ false c.loop-left-test.true (known c.few_line_chars.ensures
    (not-true _ (ap not c.if-not-few_line_chars.true))))

pub loop-left-preserved : goal.loop-left-preserved
loop-left-preserved c = (
  omega arith,
  c.loop-left.invariant.1 ∙ line_turn _ _ true c.loop-left-test.true (known c.few_line_chars.ensures
      (not-false _ (ap not c.if-not-few_line_chars.false))),
)

pub returns : goal.returns
returns c = c.few_line_chars-2.ensures ∙ sym c.loop-left.invariant.1
