use Rattle.std.proofs.Common.{arith}
use Rattle.shape.proofs.CommaLaws.{gathered_none}
use Rattle.count_type.proofs.CountLaws.{wrote_counted}
use Rattle.shape.proofs.ArgumentLaws.{gathered_argument, gathered_arguments}
use Rattle.summary.proofs.LengthLaws.{kept}
use Rattle.operands.proofs.write_held_locals.Goals as goal

pub kept_length-n-requires : goal.kept_length-n-requires
kept_length-n-requires c = omega (arith, c.requires.1.room)

pub returns-then-n-gt0 : goal.returns-then-n-gt0
returns-then-n-gt0 c =
    wrote_counted c.if-out-at.true (kept c.kept_length-n.ensures c.requires.1.held) c.if-n-gt0.true (omega arith)
    c.advance.ensures

pub loop-j-init : goal.loop-j-init
loop-j-init c = gathered_none _ _ _

pub write_held_local-here-requires : goal.write_held_local-here-requires
write_held_local-here-requires c =
    (c.requires.0, c.requires.1.arguments, omega arith, omega (arith, c.requires.1.room))

pub loop-j-preserved : goal.loop-j-preserved
loop-j-preserved c =
    gathered_argument _ c.requires.1.arguments (omega arith) c.loop-j.invariant
    c.write_held_local-here.ensures

pub returns : goal.returns
returns c = gathered_arguments _ c.requires.1.arguments (omega arith) c.loop-j.invariant
