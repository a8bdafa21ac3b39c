use native.Mathlib.Omega.{arith}
use borrow.Author.Tests.{not-true}
use Rattle.arguments.proofs.ArgumentLaws.{notes_refused, notes_marks, notes_apart}
use mathlib.Core.Path.{ap}
use mathlib.Core.Bool.{not}
use Rattle.arguments.proofs.check_arguments.Goals as goal

pub returns-then-r-gt-LAST : goal.returns-then-r-gt-LAST
returns-then-r-gt-LAST c = notes_refused c.check_each-r.ensures c.if-r-gt-LAST.true

pub returns-then-not-repeats : goal.returns-then-not-repeats
returns-then-not-repeats c =
    notes_apart c.check_each-r.ensures (omega arith) c.repeats.ensures (not-true _ (ap not c.if-not-repeats.true))

pub returns : goal.returns
returns c = notes_marks c.check_each-r.ensures (omega arith) c.equal_names-same.ensures c.mark_if.ensures
