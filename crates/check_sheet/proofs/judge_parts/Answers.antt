use mathlib.Core.Path.{sym, ◌∙◌}
use Rattle.check_sheet.specs.Ruled.{ruled_parts}
use Rattle.check_sheet.proofs.judge_parts.Goals as goal

pub returns-then-wrong_part : goal.returns-then-wrong_part
unfolding ruled_parts
returns-then-wrong_part c = rw (sym c.wrong_part.ensures ∙ c.if-wrong_part.true)

pub returns-then-taken : goal.returns-then-taken
unfolding ruled_parts
returns-then-taken c =
    rw (sym c.wrong_part.ensures ∙ c.if-wrong_part.false, sym c.taken.ensures ∙ c.if-taken.true)

pub returns-then-unfit_argument : goal.returns-then-unfit_argument
unfolding ruled_parts
returns-then-unfit_argument c =
    rw (
      sym c.wrong_part.ensures ∙ c.if-wrong_part.false,
      sym c.taken.ensures ∙ c.if-taken.false,
      sym c.unfit_argument.ensures ∙ c.if-unfit_argument.true,
    )

pub returns : goal.returns
unfolding ruled_parts
returns c =
    rw (
      sym c.wrong_part.ensures ∙ c.if-wrong_part.false,
      sym c.taken.ensures ∙ c.if-taken.false,
      sym c.unfit_argument.ensures ∙ c.if-unfit_argument.false,
    )
