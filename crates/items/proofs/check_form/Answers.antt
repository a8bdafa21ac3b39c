use mathlib.Core.Path.{refl}
use Rattle.format.specs.Decoding.{form}
use Rattle.cursor.proofs.FieldLaws.{value, cut}
use Rattle.marks.proofs.GatherLaws.{abandoned}
use Rattle.items.proofs.ItemLaws.{form_free, form_marks}
use Rattle.items.proofs.check_form.Goals as goal

pub returns-in_err-kind : goal.returns-in_err-kind
unfolding form
returns-in_err-kind c = abandoned c.from_residual.ensures.1 (rw (cut c.read.ensures c.in_err-kind.was) refl)

pub returns-then-kind-eq0 : goal.returns-then-kind-eq0
returns-then-kind-eq0 c = form_free _ _ _ (value c.read.ensures c.in_ok-kind.was) c.if-kind-eq0.true

pub returns : goal.returns
returns c =
    form_marks _ _ _ (value c.read.ensures c.in_ok-kind.was) c.if-kind-eq0.false c.check_item_index.ensures
