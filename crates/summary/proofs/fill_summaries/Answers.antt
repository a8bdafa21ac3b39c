use Rattle.std.proofs.Common.{refl, arith}
use Rattle.tables.proofs.TableLaws.{items_count_lem}
use Rattle.summary.proofs.SummaryLaws.{keeping_begins}
use Rattle.summary.proofs.fill_summaries.Goals as goal

pub loop-i-init : goal.loop-i-init
loop-i-init c = (refl, keeping_begins c.requires.1)

pub keep_item-end-requires : goal.keep_item-end-requires
keep_item-end-requires c = (c.requires.0, omega (arith, items_count_lem c.requires.0.tabled), c.loop-i.invariant.1)
