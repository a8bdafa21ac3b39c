use mathlib.Core.Path.{◌≡◌}
use Prim.Native.Nat.{◌+◌, ◌*◌, ◌^◌, ◌≤◌, ◌-◌}
use lib.ListN.{drop}
use Rattle.names.specs.Digests.{digest, window_from}
use Rattle.names.proofs.digest.Given as goal

abbrev pub invariant-loop-c : goal.invariant-loop-c
invariant-loop-c l =
    (l.x + 3 ≤ 2 ^ (7 * l.c-index + 2)) × (digest l.w ≡ window_from (8 - l.c-index) 0 l.x (drop l.c-index l.w))
