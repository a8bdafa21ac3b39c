use mathlib.Core.Path.{refl, sym, ap, ◌∙◌}
use native.Mathlib.Omega.{arith}
use Rattle.cursor.proofs.FieldLaws.{value, cut, field_lt}
use Rattle.marks.proofs.GatherLaws.{moved, halted, abandoned}
use Rattle.cursor.proofs.YieldLaws.{field_end}
use Rattle.marks.specs.Marking.{mark_arguments}
use Rattle.items.specs.Parts.{signature}
use Rattle.items.proofs.ItemLaws.{comment_marks}
use Rattle.items.proofs.check_signature.Goals as goal

pub check_arguments-requires : goal.check_arguments-requires
check_arguments-requires c =
    let e = value c.read.ensures c.in_ok-arguments.was in (
      c.requires.0,
      c.requires.1,
      omega (arith, c.requires.0.limited, field_end 5 _ _ e),
      omega (arith, field_lt 5 _ _ e),
    )

pub returns-in_err-count : goal.returns-in_err-count
unfolding signature
returns-in_err-count c =
    λ make u like. abandoned c.from_residual.ensures.1 (rw (halted c.check_return.ensures c.in_err-count.was) refl)

pub returns-in_err-arguments : goal.returns-in_err-arguments
unfolding signature
returns-in_err-arguments c =
    λ make u like. abandoned c.from_residual-in_err-arguments.ensures.1 (rw (
      (moved c.check_return.ensures c.in_ok-count.was).1,
      cut c.read.ensures c.in_err-arguments.was,
    ) refl)

pub returns-in_err-comment : goal.returns-in_err-comment
unfolding signature
returns-in_err-comment c =
    λ make u like. abandoned c.from_residual-in_err-comment.ensures.1 (rw (
      (moved c.check_return.ensures c.in_ok-count.was).1,
      value c.read.ensures c.in_ok-arguments.was,
      halted c.check_arguments.ensures (sym c.step_in.ensures ∙ c.in_err-comment.was),
    ) refl)

pub returns : goal.returns
unfolding signature
returns c =
    λ make u like. let x = moved c.check_return.ensures c.in_ok-count.was in
    let y = moved c.check_arguments.ensures (sym c.step_in.ensures ∙ c.in_ok-comment.was) in
    rw (x.1, value c.read.ensures c.in_ok-arguments.was, y.1) (comment_marks (make x.0 y.0) _ _
    (λ ls. like x.0 y.0 ls ∙ sym (y.2 ∙ ap (mark_arguments _ _ y.0) x.2)) (c.check_comment.ensures _))
