use Rattle.sink.specs.Sink.{sink}
use Rattle.write_chain.specs.Chains.{ends_of, Remains}
use Rattle.write_chain.proofs.leave.Given as goal

abbrev pub invariant-loop-stack : goal.invariant-loop-stack
invariant-loop-stack l = Remains (sink l.initial.out l.at) (ends_of l.codes) (sink l.out l.here) (ends_of l.stack)

abbrev pub decreases-loop-stack : goal.decreases-loop-stack
decreases-loop-stack l = l.stack
