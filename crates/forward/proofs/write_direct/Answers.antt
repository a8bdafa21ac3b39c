use native.Mathlib.Omega.{arith}
use Rattle.nested.proofs.ViewLaws.{count}
use Rattle.forward.proofs.EntryLaws.{direct_begin, direct_turn, direct_end}
use Rattle.tables.proofs.TableLaws.{items_count_lem}
use Rattle.forward.proofs.write_direct.Goals as goal

pub loop-i-init : goal.loop-i-init
loop-i-init c = direct_begin _ _ _ _ c.requires.4

pub write_entry-here-requires : goal.write_entry-here-requires
write_entry-here-requires c =
    (c.requires.0, c.requires.1, c.requires.2, c.requires.3, omega (arith, items_count_lem c.requires.0.tabled))

pub loop-i-preserved : goal.loop-i-preserved
loop-i-preserved c =
    direct_turn _ _ _ (rw count (omega (arith, items_count_lem c.requires.0.tabled)))
    c.loop-i.invariant c.write_entry-here.ensures

pub returns : goal.returns
returns c =
    direct_end _ _ _ (rw count (omega (arith, items_count_lem c.requires.0.tabled, c.requires.2.there))) c.loop-i.invariant
