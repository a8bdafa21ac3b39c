use mathlib.Core.Path.{◌≡◌}
use Prim.Native.Nat.{◌-◌}
use lib.ListN.{length}
use Rattle.format.specs.Decoding.{item}
use Rattle.cursor.specs.Checking.{position_of}
use Rattle.cursor.proofs.TableLaws.{Filling}
use Rattle.names.specs.Naming.{names_at}
use Rattle.marks.specs.Marking.{mark_item}
use Rattle.marks.proofs.GatherLaws.{folded}
use Rattle.items.proofs.check_items.Given as goal

abbrev pub invariant-loop-i : goal.invariant-loop-i
invariant-loop-i l =
    (length l.offsets ≡ length l.initial.offsets) × (length l.marks ≡ length l.initial.marks) ×
    Filling (position_of (item (names_at l.s l.names) l.items)) l.s l.items l.initial.next.at l.i l.offsets
    l.next.at × (folded mark_item (item (names_at l.s l.names) l.items) l.s l.items l.initial.next.at
    l.initial.marks ≡ folded mark_item (item (names_at l.s l.names) l.items) l.s (l.items - l.i) l.next.at
    l.marks)
