use Rattle.lexical.proofs.BoolLaws.{not-true, not-false}
use Rattle.clash.proofs.ViewLaws.{symbol_apart, symbol_unlike, symbol_alike}
use mathlib.Core.Path.{ap, ◌∙◌}
use mathlib.Core.Bool.{not}
use Rattle.clash.proofs.same_symbol.Goals as goal

pub returns-then-not-same_namespace : goal.returns-then-not-same_namespace
returns-then-not-same_namespace c =
    symbol_apart c.requires.0.whole c.requires.1 c.requires.2 c.same_namespace.ensures c.requires.3 c.requires.4
    (not-true _ (ap not c.if-not-same_namespace.true))

pub returns-then-same_name : goal.returns-then-same_name
returns-then-same_name c =
    symbol_alike c.requires.0.whole c.requires.1 c.requires.2 c.same_namespace.ensures c.requires.3 c.requires.4
    c.function-f.ensures.0 c.function-g.ensures.0 c.function-f.ensures.1 c.function-g.ensures.1
    c.same_name.ensures (not-false _ (ap not c.if-not-same_namespace.false)) c.if-same_name.true c.same_owner.ensures

pub returns-else-same_name : goal.returns-else-same_name
returns-else-same_name c =
    c.if-same_name.false ∙ symbol_unlike c.requires.0.whole c.requires.1 c.requires.2 c.same_namespace.ensures
    c.requires.3 c.requires.4 c.function-f.ensures.0 c.function-g.ensures.0 c.function-f.ensures.1
    c.function-g.ensures.1 c.same_name.ensures (not-false _ (ap not c.if-not-same_namespace.false))
    c.if-same_name.false
