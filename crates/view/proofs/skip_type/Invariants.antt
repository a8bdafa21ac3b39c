use mathlib.Core.Path.{◌≡◌}
use Prim.Native.Nat.{◌-◌, ◌*◌}
use lib.ListN.{length}
use Rattle.format.specs.Bits.{bits_at}
use Rattle.format.specs.Decoding.{kind_of}
use Rattle.view.specs.Views.{prefix_of}
use Rattle.view.proofs.SkipLaws.{Ending}
use Rattle.view.proofs.skip_type.Given as goal

abbrev pub invariant-loop-p : goal.invariant-loop-p
invariant-loop-p l = Ending l.items l.s l.c.at l.at × (l.k ≡ bits_at l.s l.at 4) × (l.p ≡ prefix_of (kind_of l.k))

abbrev pub decreases-loop-p : goal.decreases-loop-p
decreases-loop-p l = 8 * length l.s - l.at
