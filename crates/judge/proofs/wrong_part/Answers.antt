use native.Mathlib.Omega.{arith}
use mathlib.Core.Path.{sym, ◌∙◌}
use Rattle.marks.proofs.SomeLaws.{some_turn, some_yes, some_end}
use Rattle.judge.specs.Marked.{named_function}
use Rattle.judge.proofs.MarkedLaws.{wrong_marked}
use Rattle.judge.proofs.wrong_part.Goals as goal

pub loop-i-init : goal.loop-i-init
loop-i-init c = wrong_marked c.requires.1 c.requires.0.few

pub returns-then-named_function : goal.returns-then-named_function
returns-then-named_function c =
    sym (c.loop-i.invariant ∙ some_yes (named_function c.args.s.now c.args.names.now c.args.items.now
    c.args.marks.now) _ _ (omega arith) (sym c.named_function.ensures ∙ c.if-named_function.true))

pub loop-i-preserved : goal.loop-i-preserved
loop-i-preserved c =
    c.loop-i.invariant ∙ some_turn (named_function c.args.s.now c.args.names.now c.args.items.now
    c.args.marks.now) _ _ (omega arith) (sym c.named_function.ensures ∙ c.if-named_function.false)

pub returns : goal.returns
returns c =
    sym (c.loop-i.invariant ∙ some_end (named_function c.args.s.now c.args.names.now c.args.items.now
    c.args.marks.now) _ _ (omega arith))
