use mathlib.Core.Path.{refl}
use native.Mathlib.Omega.{arith}
use Rattle.format.specs.Decoding.{enum_body}
use Rattle.cursor.proofs.FieldLaws.{value, cut, field_lt, bit_checks}
use Rattle.lexical.proofs.BoolLaws.{known}
use Rattle.cursor.proofs.CheckLaws.{stepped, stopped, refused, tail}
use Rattle.items.proofs.check_enum.Goals as goal

pub overflow_cast-repr : goal.overflow_cast-repr
overflow_cast-repr c = omega (arith, field_lt 4 _ _ (value c.read.ensures c.in_ok-repr.was))

pub returns-in_err-next : goal.returns-in_err-next
unfolding enum_body
returns-in_err-next c =
    refused c.from_residual.ensures.1 (rw (stopped (bit_checks _ _ c.skip.ensures) c.in_err-next.was) refl)

pub returns-in_err-repr : goal.returns-in_err-repr
unfolding enum_body
returns-in_err-repr c =
    refused c.from_residual-in_err-repr.ensures.1 (rw (
      (stepped (bit_checks _ _ c.skip.ensures) c.in_ok-next.was).1,
      cut c.read.ensures c.in_err-repr.was,
    ) refl)

pub returns-then-in_range : goal.returns-then-in_range
unfolding enum_body
returns-then-in_range c =
    rw (
      (stepped (bit_checks _ _ c.skip.ensures) c.in_ok-next.was).1,
      value c.read.ensures c.in_ok-repr.was,
      known c.in_range.ensures c.if-in_range.true,
    ) (tail _ (bit_checks _ _ c.skip-then-in_range.ensures))

pub returns : goal.returns
unfolding enum_body
returns c =
    rw (
      (stepped (bit_checks _ _ c.skip.ensures) c.in_ok-next.was).1,
      value c.read.ensures c.in_ok-repr.was,
      known c.in_range.ensures c.if-in_range.false,
    ) record { step = refl }
