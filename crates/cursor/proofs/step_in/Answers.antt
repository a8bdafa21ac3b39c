use mathlib.Core.Path.{sym, ap, ◌∙◌}
use Rattle.cursor.proofs.CodeLaws.{at_in, fault_in}
use Rattle.cursor.proofs.step_in.Goals as goal
use Rattle.std.specs.Prelude.{Err}

pub returns-then-r-le-LAST : goal.returns-then-r-le-LAST
returns-then-r-le-LAST c = sym (at_in c.if-r-le-LAST.true)

pub returns : goal.returns
returns c = ap Err c.refusal_of.ensures ∙ sym (fault_in c.if-r-le-LAST.false)
