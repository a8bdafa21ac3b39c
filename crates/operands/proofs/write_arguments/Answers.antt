use Rattle.std.proofs.Common.{arith}
use Rattle.shape.proofs.CommaLaws.{listed_none}
use Rattle.shape.proofs.ArgumentLaws.{listed_argument, listed_arguments}
use Rattle.summary.proofs.LengthLaws.{kept, list_counted}
use Rattle.operands.proofs.write_arguments.Goals as goal

pub kept_length-n-requires : goal.kept_length-n-requires
kept_length-n-requires c = omega (arith, c.requires.1.room)

pub returns-then-n-gt0 : goal.returns-then-n-gt0
returns-then-n-gt0 c =
    list_counted _ _ c.if-out-at.true (omega arith) c.put_when-next.ensures (kept c.kept_length-n.ensures
    c.requires.1.operands) c.if-n-gt0.true c.advance.ensures

pub loop-j-init : goal.loop-j-init
loop-j-init c = listed_none _ _ _ _

pub write_operand-here-requires : goal.write_operand-here-requires
write_operand-here-requires c = (c.requires.0, c.requires.1.arguments, omega arith, omega (arith, c.requires.1.room))

pub loop-j-preserved : goal.loop-j-preserved
loop-j-preserved c =
    listed_argument _ c.requires.1.arguments (omega arith) c.loop-j.invariant
    c.put_when-behind.ensures c.write_operand-here.ensures

pub returns : goal.returns
returns c = listed_arguments _ c.requires.1.arguments (omega arith) c.loop-j.invariant
