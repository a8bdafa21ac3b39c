use native.Mathlib.Omega.{arith}
use Rattle.out.specs.State.{content_of}
use Rattle.out.proofs.PlaceLaws.{place_appended}
use Rattle.out.proofs.append.Goals as goal

pub overflow_add-last : goal.overflow_add-last
unfolding content_of
overflow_add-last c = omega (arith, c.requires.0)

pub put_place-requires : goal.put_place-requires
unfolding content_of
put_place-requires c = omega (arith, c.requires.0, c.put_place-arg-1.given)

pub overflow_add-c : goal.overflow_add-c
unfolding content_of
overflow_add-c c = omega (arith, c.requires.0)

pub returns : goal.returns
returns c =
    rw c.put_place.ensures (place_appended c.args.c.now (omega (arith, c.put_place-arg-1.given)) _ c.pack-p.ensures)
