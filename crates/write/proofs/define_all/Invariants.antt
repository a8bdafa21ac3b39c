use mathlib.Core.Path.{◌≡◌}
use lib.ListN.{length}
use Rattle.sections.specs.Runs.{sheet_of}
use Rattle.out.specs.State.{content_of}
use Rattle.write.specs.Passes.{define_item}
use Rattle.write.proofs.PassLaws.{Passed}
use Rattle.tables.specs.Tables.{names_in, items_in, items_of}
use Rattle.write.proofs.define_all.Given as goal

abbrev pub invariant-loop-i : goal.invariant-loop-i
invariant-loop-i l =
    Passed l.s (names_in l.t) (items_in l.t) (define_item (sheet_of l.header l.doxygen (items_of l.s l.t)))
    l.initial.out l.out (content_of l.initial.c) (content_of l.c) l.i × (length l.offsets ≡ length
    l.initial.offsets) × (length l.out ≡ length l.initial.out)
