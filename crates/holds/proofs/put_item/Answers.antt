use mathlib.Core.Path.{sym, ◌∙◌}
use native.Mathlib.Omega.{arith}
use Rattle.holds.proofs.FieldLaws.{struct_told}
use Rattle.holds.proofs.EdgeLaws.{items_passed, holds_none, holds_other, puts_none, puts_item}
use Rattle.holds.proofs.put_item.Goals as goal

pub returns-then-items-i : goal.returns-then-items-i
returns-then-items-i c =
    (puts_none _ _ (holds_none _ _ (items_passed _ _ _ c.if-items-i.true)), omega arith, omega arith)

pub returns : goal.returns
returns c = (
  puts_item _ c.item-v.ensures.0 (puts_none _ _ (holds_other _ _ (sym (struct_told _ _ c.is_struct.ensures
      c.item-v.ensures.1.view.kind) ∙ c.if-is_struct.false))),
  omega arith,
  omega arith,
)
