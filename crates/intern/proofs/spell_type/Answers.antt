use native.Mathlib.Omega.{arith}
use mathlib.Core.Path.{refl, sym}
use lib.Seq.{length-take-le}
use Rattle.sink.proofs.SinkLaws.{wrote_length}
use Rattle.tables.proofs.PoolLaws.{lent_whole}
use Rattle.mangle.proofs.FullLaws.{filled_same}
use Rattle.intern.proofs.InternLaws.{spelled}
use Rattle.intern.proofs.spell_type.Goals as goal

pub returns-then-t-k-ne0 : goal.returns-then-t-k-ne0
returns-then-t-k-ne0 c = filled_same _ c.requires.0 c.requires.1

pub write_outermost_space-count-requires : goal.write_outermost_space-count-requires
write_outermost_space-count-requires c = (lent_whole c.args.end _ c.requires.0, c.requires.2)

pub returns-then-count-gt-LONGEST : goal.returns-then-count-gt-LONGEST
returns-then-count-gt-LONGEST c = filled_same _ c.requires.0 c.requires.1

pub returns-then-count-end : goal.returns-then-count-end
returns-then-count-end c = filled_same _ c.requires.0 c.requires.1

pub slice_bounds-put_text-end-2 : goal.slice_bounds-put_text-end-2
slice_bounds-put_text-end-2 c =
    sym (length-take-le _ _ (omega (arith, wrote_length c.write_outermost_space-count.ensures)))

pub returns : goal.returns
returns c =
    spelled _ c.requires.0 c.write_outermost_space-count.ensures refl (omega arith) c.put_text.ensures (omega arith)
    (omega arith) (omega arith) c.if-t-k-ne0.false
