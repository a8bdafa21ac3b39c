use native.Mathlib.Omega.{arith}
use mathlib.Core.Path.{refl, sym, ◌∙◌}
use Rattle.names.proofs.DigestLaws.{short_more, short_fits, short_digest, short_turn, short_end}
use Rattle.names.proofs.digest.Goals as goal

pub loop-c-init : goal.loop-c-init
loop-c-init c = (omega arith, short_digest _)

pub overflow_mul-x : goal.overflow_mul-x
overflow_mul-x c = omega (arith, short_fits _ _ c.loop-c.invariant.0 7 (omega arith))

pub overflow_add-x : goal.overflow_add-x
overflow_add-x c = omega (arith, short_fits _ _ c.loop-c.invariant.0 7 (omega arith))

pub loop-c-preserved : goal.loop-c-preserved
loop-c-preserved c = (
  short_more _ _ c.loop-c.invariant.0 (c.type_inv.w _).fits,
  c.loop-c.invariant.1 ∙ short_turn _ _ _ (omega arith) c.requires refl refl,
)

pub mix-requires : goal.mix-requires
mix-requires c = (omega arith, omega (arith, short_fits _ _ c.loop-c.invariant.0 8 (omega arith)))

pub returns : goal.returns
returns c = c.mix.ensures.0 ∙ sym (c.loop-c.invariant.1 ∙ short_end _ _ _ (omega arith))
