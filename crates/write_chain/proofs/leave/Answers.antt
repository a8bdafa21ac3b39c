use Rattle.std.proofs.Common.{refl, arith}
use Rattle.write_chain.proofs.ChainLaws.{remains_all, leaving_next, leaving_done}
use Rattle.write_chain.proofs.leave.Goals as goal

pub loop-stack-init : goal.loop-stack-init
loop-stack-init c = remains_all _ refl

pub loop-stack-smaller : goal.loop-stack-smaller
loop-stack-smaller c = omega (arith, c.loop-stack-test.true)

pub loop-stack-preserved : goal.loop-stack-preserved
loop-stack-preserved c = leaving_next _ c.loop-stack.invariant c.loop-stack-test.true c.put_end-here.ensures

pub returns : goal.returns
returns c = leaving_done _ c.loop-stack.invariant c.loop-stack-test.false
