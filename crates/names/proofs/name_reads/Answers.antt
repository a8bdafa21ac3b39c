use native.Mathlib.Omega.{arith}
use mathlib.Core.Path.{sym}
use lib.Seq.{length-take-le}
use Rattle.names.proofs.NameLaws.{fetched}
use Rattle.names.proofs.name_reads.Goals as goal

pub slice_bounds-equal-end : goal.slice_bounds-equal-end
slice_bounds-equal-end c = sym (length-take-le _ _ (omega arith))

pub returns : goal.returns
returns c = rw (← fetched _ _ (c.requires.0.each _ c.requires.1) c.fetch-n.ensures) c.equal.ensures
