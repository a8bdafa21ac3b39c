use native.Mathlib.Omega.{arith}
use Rattle.lexical.proofs.BoolLaws.{known}
use Rattle.view.proofs.TypeLaws.{bit_there, pointer_at_lem}
use Rattle.view.proofs.pointer_bit.Goals as goal

pub extract-requires : goal.extract-requires
extract-requires c = (
  c.requires.0.named.limited,
  omega arith,
  bit_there c.item-v.ensures.1 c.item-v.ensures.0
      (known c.is_function.ensures c.if-not-is_function.true),
)

pub returns-then-not-is_function : goal.returns-then-not-is_function
returns-then-not-is_function c =
    pointer_at_lem c.item-v.ensures.1 c.item-v.ensures.0 (known c.is_function.ensures c.if-not-is_function.true)
    c.requires.0.named.limited c.extract.ensures
