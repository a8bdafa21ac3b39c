use native.Mathlib.Omega.{arith}
use Rattle.mangle.proofs.NameLaws.{spaces_none, spaces_turn}
use Rattle.mangle.proofs.namespace.write_namespace.Goals as goal

pub loop-d-init : goal.loop-d-init
loop-d-init c = spaces_none c.requires.1 _ _ _

pub loop-d-preserved : goal.loop-d-preserved
loop-d-preserved c =
    spaces_turn c.requires.1 _ _ (omega arith) c.namespace-name.ensures.1 c.loop-d.invariant
    c.put_bytes-here.ensures c.put_name_of-here.ensures c.put_bytes-here-in-loop-d.ensures
