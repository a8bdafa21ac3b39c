use native.Mathlib.Omega.{arith}
use Rattle.out.proofs.PlaceLaws.{place_new}
use Rattle.out.proofs.Content.new.Goals as goal

pub put_place-requires : goal.put_place-requires
put_place-requires c = omega (arith, c.put_place-arg-1.given)

pub returns : goal.returns
returns c = rw c.put_place.ensures (place_new c.args.c.now (omega (arith, c.put_place-arg-1.given)))
