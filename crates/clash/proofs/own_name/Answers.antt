use mathlib.Core.Path.{sym, ◌∙◌}
use Rattle.cursor.proofs.WidthLaws.{width_le}
use Rattle.clash.proofs.ViewLaws.{own_type, own_function}
use Rattle.clash.proofs.own_name.Goals as goal

pub field-rust-requires : goal.field-rust-requires
field-rust-requires c = (c.requires.0.named.limited, width_le _ c.width.ensures)

pub returns-then-is_function : goal.returns-then-is_function
returns-then-is_function c =
    own_function c.item-v.ensures.1 c.item-v.ensures.0 (sym c.is_function.ensures ∙ c.if-is_function.true)
    c.width.ensures c.field-rust.ensures

pub returns : goal.returns
returns c = own_type c.item-v.ensures.1 c.item-v.ensures.0 (sym c.is_function.ensures ∙ c.if-is_function.false)
