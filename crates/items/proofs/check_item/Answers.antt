use mathlib.Core.Path.{refl}
use Rattle.format.specs.Decoding.{item}
use Rattle.cursor.proofs.FieldLaws.{value, cut}
use Rattle.cursor.proofs.CheckLaws.{stepped, stopped}
use Rattle.marks.specs.Marking.{mark_item}
use Rattle.marks.proofs.GatherLaws.{made, abandoned}
use Rattle.items.proofs.ItemLaws.{name_of_lem, bad_is}
use Rattle.items.proofs.check_item.Goals as goal

pub returns-in_err-number : goal.returns-in_err-number
unfolding item
returns-in_err-number c = abandoned c.from_residual.ensures.1 (rw (cut c.read.ensures c.in_err-number.was) refl)

pub returns-then-is_bad : goal.returns-then-is_bad
unfolding item
returns-then-is_bad c =
    rw (
      value c.read.ensures c.in_ok-number.was,
      bad_is c.part_of-kind.ensures c.is_bad.ensures c.if-is_bad.true,
    ) record { gathered = refl }

pub returns-in_err-name : goal.returns-in_err-name
unfolding item
returns-in_err-name c =
    abandoned c.from_residual-in_err-name.ensures.1 (rw (
      value c.read.ensures c.in_ok-number.was,
      bad_is c.part_of-kind.ensures c.is_bad.ensures c.if-is_bad.false,
      stopped c.check_namespace.ensures c.in_err-name.was,
    ) refl)

pub returns-in_err-behind : goal.returns-in_err-behind
unfolding item
returns-in_err-behind c =
    abandoned c.from_residual-in_err-behind.ensures.1 (rw (
      value c.read.ensures c.in_ok-number.was,
      bad_is c.part_of-kind.ensures c.is_bad.ensures c.if-is_bad.false,
      (stepped c.check_namespace.ensures c.in_ok-name.was).1,
      stopped (name_of_lem c.args.s.now c.args.names.now _ c.check_index.ensures) c.in_err-behind.was,
    ) refl)

pub returns : goal.returns
unfolding item mark_item
returns c =
    rw (
      value c.read.ensures c.in_ok-number.was,
      bad_is c.part_of-kind.ensures c.is_bad.ensures c.if-is_bad.false,
      (stepped c.check_namespace.ensures c.in_ok-name.was).1,
      (stepped (name_of_lem c.args.s.now c.args.names.now _ c.check_index.ensures) c.in_ok-behind.was).1,
      ← c.part_of-kind.ensures,
    ) (made _ (λ b. refl) c.check_body.ensures)
