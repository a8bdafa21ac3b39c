use native.Mathlib.Omega.{arith}
use mathlib.Core.Path.{sym, ◌∙◌}
use Rattle.marks.proofs.SomeLaws.{some_turn, some_yes, some_end}
use Rattle.judge.specs.Marked.{indirect_error}
use Rattle.judge.proofs.MarkedLaws.{unfit_marked, unfit_unmarked}
use Rattle.judge.proofs.unfit_argument.Goals as goal

pub returns-then-marks-eq1 : goal.returns-then-marks-eq1
returns-then-marks-eq1 c = sym (unfit_marked c.requires.1 c.requires.0.few c.if-marks-eq1.true)

pub loop-i-init : goal.loop-i-init
loop-i-init c = unfit_unmarked c.requires.1 c.requires.0.few c.if-marks-eq1.false

pub returns-then-indirect_error : goal.returns-then-indirect_error
returns-then-indirect_error c =
    sym (c.loop-i.invariant ∙ some_yes (indirect_error c.args.s.now c.args.names.now c.args.items.now
    c.args.marks.now) _ _ (omega arith) (sym c.indirect_error.ensures ∙ c.if-indirect_error.true))

pub loop-i-preserved : goal.loop-i-preserved
loop-i-preserved c =
    c.loop-i.invariant ∙ some_turn (indirect_error c.args.s.now c.args.names.now c.args.items.now
    c.args.marks.now) _ _ (omega arith) (sym c.indirect_error.ensures ∙ c.if-indirect_error.false)

pub returns : goal.returns
returns c =
    sym (c.loop-i.invariant ∙ some_end (indirect_error c.args.s.now c.args.names.now c.args.items.now
    c.args.marks.now) _ _ (omega arith))
