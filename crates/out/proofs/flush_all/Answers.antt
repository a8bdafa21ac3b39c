use native.Mathlib.Omega.{arith}
use Rattle.out.specs.State.{content_of}
use Rattle.out.proofs.FlushLaws.{turned_none, turned_one, turned_all}
use Rattle.out.proofs.PlaceLaws.{entry_read, entry_small}
use Rattle.out.proofs.flush_all.Goals as goal

pub loop-i-init : goal.loop-i-init
unfolding content_of
loop-i-init c = turned_none _ _ _ _

pub bounds-c-place : goal.bounds-c-place
unfolding content_of
bounds-c-place c = omega (arith, c.requires.1.few)

pub overflow_cast-code : goal.overflow_cast-code
unfolding content_of
overflow_cast-code c =
    record {
      fits = entry_small _ c.args.c.now _ c.requires.0.tabled.whole.named.few (c.requires.1.known _
          (omega arith));
    }

pub flush_boundary-at-requires : goal.flush_boundary-at-requires
unfolding content_of
flush_boundary-at-requires c =
    (c.requires.0, rw (entry_read c.args.c.now _ c.unpack-boundary.ensures) (c.requires.1.known _ (omega arith)))

pub loop-i-preserved : goal.loop-i-preserved
unfolding content_of
loop-i-preserved c =
    turned_one _ _ _ (omega arith) c.loop-i.invariant (entry_read c.args.c.now _ c.unpack-boundary.ensures)
    c.flush_boundary-at.ensures c.is_end-section.ensures

pub returns : goal.returns
unfolding content_of
returns c = turned_all _ _ _ (omega arith) c.loop-i.invariant
