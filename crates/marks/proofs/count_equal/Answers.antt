use native.Mathlib.Omega.{arith}
use lib.Dec.{eqb}
use lib.ListN.{get_or}
use Rattle.marks.proofs.KeyLaws.{count_turn, count_end, one_of}
use Rattle.marks.proofs.count_equal.Goals as goal

pub loop-x-preserved : goal.loop-x-preserved
loop-x-preserved c =
    let h = one_of (eqb c.args.k (get_or c.args.keys.now c.loop-x.x-index 0)) in
    (omega arith, omega (arith, count_turn c.args.k c.args.keys.now c.loop-x.x-index c.loop-x-test.true))

pub returns : goal.returns
returns c = omega (arith, count_end c.args.k c.args.keys.now c.loop-x.x-index c.loop-x-test.false)
