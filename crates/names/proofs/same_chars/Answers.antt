use native.Mathlib.Omega.{arith}
use mathlib.Core.Path.{sym}
use lib.Seq.{length-take-le}
use Rattle.names.proofs.NameLaws.{fetched}
use Rattle.names.proofs.same_chars.Goals as goal

pub slice_bounds-equal-end : goal.slice_bounds-equal-end
slice_bounds-equal-end c = sym (length-take-le _ _ (omega arith))

pub slice_bounds-equal-end-2 : goal.slice_bounds-equal-end-2
slice_bounds-equal-end-2 c = sym (length-take-le _ _ (omega arith))

pub returns : goal.returns
returns c =
    rw (← fetched _ _ c.requires.1 c.fetch-n.ensures, ← fetched _ _ c.requires.2 c.fetch-m.ensures) c.equal.ensures
