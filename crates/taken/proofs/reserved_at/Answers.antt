use native.Mathlib.Omega.{arith}
use mathlib.Core.Path.{◌∙◌}
use Rattle.taken.proofs.ReservedLaws.{no_namespace, in_std, in_rust}
use Rattle.taken.proofs.reserved_at.Goals as goal

pub returns-then-v-eq0 : goal.returns-then-v-eq0
returns-then-v-eq0 c = no_namespace c.item-v.ensures.1 c.item-v.ensures.0 c.if-v-eq0.true

pub name_is-requires : goal.name_is-requires
name_is-requires c =
    (c.requires.0.whole.named, c.requires.0.digested, c.namespace-first.ensures.0, omega arith)

pub returns-then-name_is : goal.returns-then-name_is
returns-then-name_is c =
    c.if-name_is.true ∙ in_std c.item-v.ensures.1 c.item-v.ensures.0 c.if-v-eq0.false c.namespace-first.ensures.1
    c.name_is.ensures c.if-name_is.true

pub name_is-requires-else-name_is : goal.name_is-requires-else-name_is
name_is-requires-else-name_is c = (c.requires.0.whole.named, c.requires.0.digested, c.namespace-first.ensures.0, omega arith)

pub returns-else-name_is : goal.returns-else-name_is
returns-else-name_is c =
    in_rust c.item-v.ensures.1 c.item-v.ensures.0 c.if-v-eq0.false c.namespace-first.ensures.1
    c.name_is.ensures c.if-name_is.false c.name_is-else-name_is.ensures
