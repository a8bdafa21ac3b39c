use native.Mathlib.Omega.{arith}
use mathlib.Core.Path.{sym, ◌∙◌}
use Rattle.lexical.proofs.BoolLaws.{not-true, not-false}
use Rattle.clash.proofs.ViewLaws.{depths_differ, spaces_turn, spaces_differ, spaces_end}
use mathlib.Core.Path.{ap}
use mathlib.Core.Bool.{not}
use Rattle.clash.proofs.same_namespace.Goals as goal

pub returns-then-v-w : goal.returns-then-v-w
returns-then-v-w c = depths_differ c.requires.0.whole c.requires.1 c.requires.2 c.if-v-w.true

pub returns-then-not-same_name : goal.returns-then-not-same_name
returns-then-not-same_name c =
    sym (c.loop-d.invariant ∙ spaces_differ c.requires.0.whole c.requires.1 c.requires.2 c.if-v-w.false
    (omega arith) c.namespace-a.ensures.1 c.namespace-b.ensures.1 c.same_name.ensures (not-true _
    (ap not c.if-not-same_name.true)))

pub loop-d-preserved : goal.loop-d-preserved
loop-d-preserved c =
    c.loop-d.invariant ∙ spaces_turn c.requires.0.whole c.requires.1 c.requires.2 c.if-v-w.false
    (omega arith) c.namespace-a.ensures.1 c.namespace-b.ensures.1 c.same_name.ensures (not-false _
    (ap not c.if-not-same_name.false))

pub returns : goal.returns
returns c =
    sym (c.loop-d.invariant ∙ spaces_end c.requires.0.whole c.requires.1 c.requires.2 c.if-v-w.false
    (omega arith))
