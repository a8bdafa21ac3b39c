use mathlib.Core.Path.{refl}
use Rattle.format.specs.Decoding.{function_body}
use Rattle.cursor.proofs.FieldLaws.{bit_value, bit_cut}
use Rattle.cursor.proofs.CheckLaws.{stepped, stopped}
use Rattle.marks.specs.Marking.{mark_function, mark_body}
use Rattle.marks.proofs.GatherLaws.{moved, halted, abandoned}
use Rattle.items.specs.Parts.{signature}
use Rattle.comments.specs.Comments.{comment}
use Rattle.items.proofs.ItemLaws.{name_of_lem, inputs_like}
use Rattle.items.proofs.check_function.Goals as goal

pub returns-in_err-form : goal.returns-in_err-form
unfolding function_body
returns-in_err-form c =
    abandoned c.from_residual.ensures.1
    (rw (stopped (name_of_lem c.args.s.now c.args.names.now _ c.check_index.ensures) c.in_err-form.was) refl)

pub returns-in_err-behind : goal.returns-in_err-behind
unfolding function_body
returns-in_err-behind c =
    abandoned c.from_residual-in_err-behind.ensures.1 (rw (
      (stepped (name_of_lem c.args.s.now c.args.names.now _ c.check_index.ensures) c.in_ok-form.was).1,
      halted c.check_form.ensures c.in_err-behind.was,
    ) refl)

pub returns-in_err-throws : goal.returns-in_err-throws
unfolding function_body
returns-in_err-throws c =
    abandoned c.from_residual-in_err-throws.ensures.1 (rw (
      (stepped (name_of_lem c.args.s.now c.args.names.now _ c.check_index.ensures) c.in_ok-form.was).1,
      (moved c.check_form.ensures c.in_ok-behind.was).1,
      bit_cut _ _ c.read.ensures c.in_err-throws.was,
    ) refl)

pub returns : goal.returns
unfolding function_body signature comment mark_function mark_body
returns c =
    let x = moved c.check_form.ensures c.in_ok-behind.was in
    rw (
      (stepped (name_of_lem c.args.s.now c.args.names.now _ c.check_index.ensures) c.in_ok-form.was).1,
      x.1,
      bit_value _ _ c.read.ensures c.in_ok-throws.was,
    )
    (c.check_signature.ensures _ _ (λ r xs ls. inputs_like _ r xs (c.is_method-method.ensures _ _ _ x.1) x.2))
