use Prim.Native.Nat.{◌+◌, ◌-◌, ◌*◌, ◌≤◌}
use mathlib.Core.Path.{◌≡◌}
use lib.ListN.{length}
use Rattle.format.specs.Decoding.{type_at}
use Rattle.format.specs.Limits.{most_bits}
use Rattle.marks.specs.Marking.{mark_ty}
use Rattle.marks.proofs.GatherLaws.{folded}
use Rattle.types.proofs.+walk_fn_walk_return_walk_slot_walk_type_walk_types.Given as goal

abbrev pub decreases-walk_fn : goal.decreases-walk_fn
decreases-walk_fn l = 5 * l.left + 4

abbrev pub decreases-walk_return : goal.decreases-walk_return
decreases-walk_return l = 5 * l.left + 3

abbrev pub decreases-walk_slot : goal.decreases-walk_slot
decreases-walk_slot l = 5 * l.left + 1

abbrev pub decreases-walk_type : goal.decreases-walk_type
decreases-walk_type l = 5 * l.left

abbrev pub decreases-walk_types : goal.decreases-walk_types
decreases-walk_types l = 5 * l.left + 2

abbrev pub invariant-walk_types-loop : goal.invariant-walk_types-loop
invariant-walk_types-loop l =
    (l.next ≤ most_bits) × (length l.marks ≡ length l.initial.marks) × (folded mark_ty (type_at l.items l.left) l.s l.n
    l.initial.next l.initial.marks ≡ folded mark_ty (type_at l.items l.left) l.s (l.n - l.counter) l.next l.marks)
