use native.Mathlib.Omega.{arith}
use mathlib.Core.Path.{◌∙◌}
use Rattle.tables.proofs.TableLaws.{items_count_lem}
use Rattle.forward.proofs.EntryLaws.{first_item, forward_none, forward_all}
use Rattle.forward.proofs.write_forward_declarations.Goals as goal

pub returns-then-t-eq0 : goal.returns-then-t-eq0
returns-then-t-eq0 c = forward_none _ _ _ _ (items_count_lem c.requires.0.tabled ∙ c.if-t-eq0.true)

pub item-leader-requires : goal.item-leader-requires
item-leader-requires c = (c.requires.0.tabled, omega (arith, items_count_lem c.requires.0.tabled))

pub write_entries-requires : goal.write_entries-requires
write_entries-requires c =
    (c.requires.0, c.requires.1, c.item-leader.ensures.1, omega arith, rw c.item-leader.ensures.0 (first_item _))

pub returns : goal.returns
returns c = forward_all _ _ c.write_entries.ensures
