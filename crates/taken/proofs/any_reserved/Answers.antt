use native.Mathlib.Omega.{arith}
use mathlib.Core.Path.{refl, sym, ◌∙◌}
use Rattle.rules.specs.Rules.{reserved_namespace}
use Rattle.clash.proofs.ListLaws.{items_turn, items_hit, items_end}
use Rattle.taken.proofs.any_reserved.Goals as goal

pub overflow_cast-n : goal.overflow_cast-n
overflow_cast-n c = omega (arith, c.requires.whole.few)

pub loop-i-init : goal.loop-i-init
loop-i-init c = refl

pub reserved_at-requires : goal.reserved_at-requires
reserved_at-requires c = (c.requires, omega arith)

pub returns-then-reserved_at : goal.returns-then-reserved_at
returns-then-reserved_at c =
    sym (c.loop-i.invariant ∙ items_hit _ _ _ (omega arith) (λ x. reserved_namespace x.namespace)
    c.reserved_at.ensures c.if-reserved_at.true)

pub loop-i-preserved : goal.loop-i-preserved
loop-i-preserved c =
    c.loop-i.invariant ∙ items_turn _ _ _ (omega arith) (λ x. reserved_namespace x.namespace)
    c.reserved_at.ensures c.if-reserved_at.false

pub returns : goal.returns
returns c =
    sym (c.loop-i.invariant ∙ items_end _ _ _ (omega arith) (λ x. reserved_namespace x.namespace))
