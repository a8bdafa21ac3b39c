use mathlib.Core.Path.{◌≡◌}
use Prim.Native.Nat.{ℕ, ◌<◌}
use lib.ListN.{length, get_or}
use Rattle.names.specs.Digests.{digest}
use Rattle.view.specs.Values.{item_no}
use Rattle.clash.specs.Clashes.{own_name}
use Rattle.clash.proofs.fill_keys.Given as goal

abbrev pub invariant-loop-i : goal.invariant-loop-i
invariant-loop-i l =
    (length l.keys ≡ length l.initial.keys) × ((k : ℕ) → k < l.i → get_or l.keys k 0 ≡ digest
    (own_name (item_no l.s l.names l.items k)))
