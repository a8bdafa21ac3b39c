use native.Mathlib.Omega.{arith}
use Rattle.write_type.proofs.TypeLaws.{outermost_yields}
use Rattle.shape.proofs.TypeLaws.{type_at}
use Rattle.count_type.proofs.CountLaws.{wrote_counted}
use Rattle.shape.proofs.write_outermost.Goals as goal

pub count_type-n-requires : goal.count_type-n-requires
count_type-n-requires c = (c.requires.0, outermost_yields _ _ _ c.requires.1)

pub returns-then-n-gt0 : goal.returns-then-n-gt0
returns-then-n-gt0 c =
    rw (type_at _ _ _) (wrote_counted c.if-out-at.true c.count_type-n.ensures c.if-n-gt0.true (omega arith)
    c.advance.ensures)

pub write_chain-requires : goal.write_chain-requires
write_chain-requires c = (c.requires.0, outermost_yields _ _ _ c.requires.1)

pub returns : goal.returns
returns c = rw (type_at _ _ _) c.write_chain.ensures
