use mathlib.Core.Path.{sym, ◌∙◌}
use Rattle.lexical.proofs.BoolLaws.{not-true, not-false}
use Rattle.sink.proofs.SinkLaws.{◌▷◌, wrote_nil}
use mathlib.Core.Path.{ap}
use mathlib.Core.Bool.{not}
use Rattle.forward.proofs.write_entry.Goals as goal

pub returns-then-not-is_direct : goal.returns-then-not-is_direct
returns-then-not-is_direct c =
    rw (sym c.is_direct.ensures ∙ not-true _ (ap not c.if-not-is_direct.true)) (wrote_nil _)

pub returns : goal.returns
returns c =
    rw (sym c.is_direct.ensures ∙ not-false _ (ap not c.if-not-is_direct.false)) (rw (← c.item-v.ensures.0)
    (c.indent-here.ensures ▷ c.write_line.ensures))
