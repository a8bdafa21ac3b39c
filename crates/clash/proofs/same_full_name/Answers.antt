use Rattle.clash.proofs.ViewLaws.{full_name_apart, full_name_beside}
use mathlib.Core.Path.{◌∙◌}
use Rattle.clash.proofs.same_full_name.Goals as goal

pub returns-then-same_namespace : goal.returns-then-same_namespace
returns-then-same_namespace c =
    full_name_beside c.requires.0.whole c.requires.1 c.requires.2 c.same_namespace.ensures c.if-same_namespace.true
    c.requires.1.view.cxx c.requires.2.view.cxx c.same_name.ensures

pub returns-else-same_namespace : goal.returns-else-same_namespace
returns-else-same_namespace c =
    c.if-same_namespace.false ∙ full_name_apart c.requires.0.whole c.requires.1 c.requires.2 c.same_namespace.ensures
    c.if-same_namespace.false
